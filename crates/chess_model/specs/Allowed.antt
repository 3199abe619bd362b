-- Which half-moves are allowed (FIDE Laws 3.1 to 3.9; FICS help pages `crazyhouse` and `bughouse` for drops).
use Rattle.std.specs.Prelude.{◌≡◌, ◌≢◌, ℕ, ◌+◌, ◌<◌, Bool, true, false, IsTrue, ◌⊎◌, Option, Some, None, List, ◌∷◌, ◌++◌, ⊤}
use Rattle.chess_model.specs.declared.man.Colour.{Colour}
use Rattle.chess_model.specs.declared.man.Colour.TheVariants.{White, Black}
use Rattle.chess_model.specs.declared.man.Kind.{Kind}
use Rattle.chess_model.specs.declared.man.Kind.TheVariants.{Pawn, Knight, Bishop, Rook, Queen, King}
use Rattle.chess_model.specs.declared.man.Man.{Man}
use Rattle.chess_model.specs.declared.moves.Move.{Move}
use Rattle.chess_model.specs.declared.moves.Move.TheVariants.{Plain, Castle, Drop}
use Rattle.chess_model.specs.declared.rights.Rights.{Rights}
use Rattle.chess_model.specs.declared.variant.Variant.{Variant}
use Rattle.chess_model.specs.declared.variant.Variant.TheVariants.{Chess, Crazyhouse, Bughouse, Fischer}
use Rattle.chess_model.specs.Squares.{rank_of, distance, along}
use Rattle.chess_model.specs.Placement.{Placement, man_at, opposite, last_rank, king_home, rook_home, king_end, rook_end}
use Rattle.chess_model.specs.Reach.{Reaches}
use Rattle.chess_model.specs.Attacked.{IsAttacked, IsKingSafe}
use Rattle.chess_model.specs.MoveList.{HalfMove, place_after}
use Rattle.chess_model.specs.Holdings.{count_in}
use Rattle.chess_model.specs.Position.{Position, hand_of_side, position_after}

-- a pawn may become a knight, a bishop, a rook or a queen (FIDE 3.7.5)
abbrev pub IsPromotion : Option Kind → Type 0
IsPromotion None = ⊥
IsPromotion (Some Pawn) = ⊥
IsPromotion (Some Knight) = ⊤
IsPromotion (Some Bishop) = ⊤
IsPromotion (Some Rook) = ⊤
IsPromotion (Some Queen) = ⊤
IsPromotion (Some King) = ⊥

-- a man of that kind that reaches b carries the promotion that the move names: a pawn on its last rank has one,
-- every other move has none
abbrev pub HasPromotion : Colour → Kind → ℕ → Option Kind → Type 0
HasPromotion c Pawn b promo =
    ((rank_of b ≡ last_rank c) × IsPromotion promo) ⊎ ((rank_of b ≢ last_rank c) × (promo ≡ None))
HasPromotion c Knight b promo = promo ≡ None
HasPromotion c Bishop b promo = promo ≡ None
HasPromotion c Rook b promo = promo ≡ None
HasPromotion c Queen b promo = promo ≡ None
HasPromotion c King b promo = promo ≡ None

-- the man on a is an own one that reaches b with that promotion
abbrev pub GoesAs : Position → ℕ → ℕ → Option Kind → Option Man → Type 0
GoesAs p a b promo None = ⊥
GoesAs p a b promo (Some m) =
    (m.colour ≡ p.to_move) × Reaches p.men p.en_passant p.to_move m.kind a b × HasPromotion p.to_move m.kind b promo

-- a plain move, the safety of the king aside
pub record IsPlainMove (p : Position) (a b : ℕ) (promo : Option Kind) : Type 0 where
  pub from : a < 64
  pub to : b < 64
  pub goes : GoesAs p a b promo (man_at p.men a)

-- the castling right of a colour
abbrev pub right_of : Rights → Colour → Bool → Bool
right_of r White false = r.white_short
right_of r White true = r.white_long
right_of r Black false = r.black_short
right_of r Black true = r.black_long

-- no square from a to b, both included, is attacked by that colour
pub record IsUnattackedWay (P : Placement) (by : Colour) (a b : ℕ) : Type 0 where
  pub free : (k : ℕ) → k < distance a b + 1 → ¬ IsAttacked P by (along a b k)

-- a square that is empty, or the home of the king or of the rook that castle
abbrev pub IsFreeFor : Placement → ℕ → ℕ → ℕ → Type 0
IsFreeFor P king rook s = (s ≡ king) ⊎ ((s ≡ rook) ⊎ (man_at P s ≡ None))

-- each square from a to b, both included, is empty, or the home of the king or of the rook that castle
pub record IsFreeWay (P : Placement) (king rook a b : ℕ) : Type 0 where
  pub free : (k : ℕ) → k < distance a b + 1 → IsFreeFor P king rook (along a b k)

-- castling: its right stands, nothing but the king and the rook stands on the ways of these two to their ends, and
-- neither the king's square nor one that it passes or reaches is attacked (FIDE 3.8.2)
pub record CanCastle (p : Position) (long : Bool) : Type 0 where
  pub right : IsTrue (right_of p.rights p.to_move long)
  pub king_way : IsFreeWay p.men (king_home p.variant p.to_move) (rook_home p.variant p.to_move long)
      (king_home p.variant p.to_move) (king_end p.to_move long)
  pub rook_way : IsFreeWay p.men (king_home p.variant p.to_move) (rook_home p.variant p.to_move long)
      (rook_home p.variant p.to_move long) (rook_end p.to_move long)
  pub walk : IsUnattackedWay p.men (opposite p.to_move) (king_home p.variant p.to_move) (king_end p.to_move long)

-- men in hand may be dropped in crazyhouse and in bughouse
abbrev pub HasDrops : Variant → Type 0
HasDrops Chess = ⊥
HasDrops Crazyhouse = ⊤
HasDrops Bughouse = ⊤
HasDrops (Fischer number) = ⊥

-- a pawn isn't dropped on the first or eighth rank
abbrev pub MayDropOn : Kind → ℕ → Type 0
MayDropOn Pawn to = (0 < rank_of to) × (rank_of to < 7)
MayDropOn Knight to = ⊤
MayDropOn Bishop to = ⊤
MayDropOn Rook to = ⊤
MayDropOn Queen to = ⊤
MayDropOn King to = ⊤

-- a drop, the safety of the king aside
pub record CanDrop (p : Position) (k : Kind) (to : ℕ) : Type 0 where
  pub variant : HasDrops p.variant
  pub held : 0 < count_in (hand_of_side p p.to_move) k
  pub square : to < 64
  pub free : man_at p.men to ≡ None
  pub rank : MayDropOn k to

-- all that makes a half-move allowed but the safety of the own king after it
abbrev pub IsMove : Position → Move → Type 0
IsMove p (Plain a b promo) = IsPlainMove p a b promo
IsMove p (Castle long) = CanCastle p long
IsMove p (Drop k to) = CanDrop p k to

-- the own king isn't attacked after the half-move (FIDE 3.9.2)
abbrev pub IsSafeAfter : Position → Move → Type 0
IsSafeAfter p m = IsKingSafe (place_after p.variant p.men p.to_move m) p.to_move

-- the half-move is allowed
pub record Allowed (p : Position) (m : Move) : Type 0 where
  pub move : IsMove p m
  pub safe : IsSafeAfter p m

-- a list of half-moves is legal where each is allowed in the position of its board after those before it
pub record IsLegal (v : Variant) (T : List HalfMove) : Type 0 where
  pub each : (before after : List HalfMove) (h : HalfMove) → T ≡ before ++ h ∷ after →
      Allowed (position_after v before h.board) h.what
