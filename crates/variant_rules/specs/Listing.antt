-- The list of allowed half-moves, part by part.
use Rattle.std.specs.Prelude.{◌≡◌, ℕ, ◌<◌, ◌↔◌, true, false, List, [], ◌∷◌, ◌++◌, map, Option, None}
use Rattle.std.specs.List.{filter, flat_map, range_with_len}
use Rattle.chess_model.specs.declared.man.Colour.{Colour}
use Rattle.chess_model.specs.declared.man.Kind.{Kind}
use Rattle.chess_model.specs.declared.man.Kind.TheVariants.{Pawn, Knight, Bishop, Rook, Queen, King}
use Rattle.chess_model.specs.declared.moves.Move.{Move}
use Rattle.chess_model.specs.declared.moves.Move.TheVariants.{Plain, Drop}
use Rattle.chess_model.specs.MoveList.{is_en_passant}
use Rattle.chess_model.specs.Placement.{Placement, man_at, IsHeldBy, IsHeldAs}
use Rattle.chess_model.specs.Reach.{Reaches}
use Rattle.chess_model.specs.Attacked.{IsKingSafe}
use Rattle.chess_model.specs.Position.{Position}
use Rattle.chess_model.specs.Allowed.{IsMove, IsSafeAfter, Allowed}
use Rattle.chess_model.specs.Tests.{is_allowed}
use Rattle.chess_model.specs.AllMoves.{promotions, moves_from}
use Rattle.bitboard_core.specs.Sets.{Has}
use Rattle.variant_rules.specs.declared.guard.Guard.{Guard}

-- the allowed plain moves from a to b, with each promotion
unfoldable pub moves_between : Position → ℕ → ℕ → List Move
moves_between p a b = filter (is_allowed p) (map (Plain a b) promotions)

-- the allowed plain moves from a to the squares below n
unfoldable pub moves_from_below : Position → ℕ → ℕ → List Move
moves_from_below p a n = filter (is_allowed p) (flat_map (λ b. map (Plain a b) promotions) (range_with_len 0 n))

-- the allowed plain moves from the squares below n
unfoldable pub plain_moves_below : Position → ℕ → List Move
plain_moves_below p n = filter (is_allowed p) (flat_map moves_from (range_with_len 0 n))

-- the allowed drops of a kind on the squares below n
unfoldable pub drops_below : Position → Kind → ℕ → List Move
drops_below p k n = filter (is_allowed p) (flat_map (λ t. Drop k t ∷ []) (range_with_len 0 n))

-- that half-move, if it is allowed
unfoldable pub if_allowed : Position → Move → List Move
if_allowed p m = filter (is_allowed p) (m ∷ [])

-- the allowed drops
unfoldable pub drops_listed : Position → List Move
drops_listed p =
    drops_below p Pawn 64 ++ (drops_below p Knight 64 ++ (drops_below p Bishop 64 ++ (drops_below p Rook 64
    ++ drops_below p Queen 64)))

-- no move from a to b can leave the own king attacked
pub record IsLeftSafe (p : Position) (a b : ℕ) : Type 0 where
  pub safe : (promo : Option Kind) → IsMove p (Plain a b promo) → IsSafeAfter p (Plain a b promo)

-- no move from a that isn't en passant can leave the own king attacked
pub record IsUnguarded (p : Position) (a : ℕ) : Type 0 where
  pub safe : (b : ℕ) (promo : Option Kind) → IsMove p (Plain a b promo) → is_en_passant p.men a b ≡ false
      → IsSafeAfter p (Plain a b promo)

-- which half-moves have to be tried for the safety of the own king: those from a set of squares and, in check, drops;
-- and which can't leave it safe: those of other men, and drops, outside a set of squares
pub record IsGuard (p : Position) (guard : Guard) : Type 0 where
  pub safe : guard.in_check ≡ false → IsKingSafe p.men p.to_move
  pub check : guard.in_check ≡ true → ¬ IsKingSafe p.men p.to_move
  pub from : (a : ℕ) → a < 64 → ¬ Has guard.from a → IsUnguarded p a
  pub drops : guard.in_check ≡ false → (k : Kind) (to : ℕ) → IsMove p (Drop k to) → IsSafeAfter p (Drop k to)
  pub answers : (a b : ℕ) (promo : Option Kind) → ¬ Has guard.answers b → IsMove p (Plain a b promo) →
      ¬ IsHeldAs p.to_move King (man_at p.men a) → ¬ IsHeldBy p.to_move (man_at p.men b)
      → is_en_passant p.men a b ≡ false →
      ¬ IsSafeAfter p (Plain a b promo)
  pub shields : (k : Kind) (to : ℕ) → to < 64 → ¬ Has guard.answers to → man_at p.men to ≡ None
      → ¬ IsSafeAfter p (Drop k to)

-- the set has the squares that a man of that colour and kind on a reaches; e is the en passant square
pub record AreTargets (P : Placement) (e : Option ℕ) (c : Colour) (k : Kind) (a set : ℕ) : Type 0 where
  pub each : (t : ℕ) → t < 64 → Has set t ↔ Reaches P e c k a t

-- the set has the squares that a man of the player to move and of that kind on a reaches
abbrev pub IsTargetSet : Position → Kind → ℕ → ℕ → Type 0
IsTargetSet p k a set = AreTargets p.men p.en_passant p.to_move k a set

-- the set has every square to which an allowed move of the man of that kind on a goes, and none that it doesn't reach
pub record AreGoals (p : Position) (k : Kind) (a set : ℕ) : Type 0 where
  pub reached : (b : ℕ) → b < 64 → Has set b → Reaches p.men p.en_passant p.to_move k a b
  pub others : (b : ℕ) → b < 64 → ¬ Has set b → (promo : Option Kind) → ¬ Allowed p (Plain a b promo)
