-- The list of allowed half-moves has exactly these, in their order.
use Rattle.std.proofs.Common.{arith, ◌≡◌, ℕ, ◌+◌, ◌<◌, ◌≤◌, inl, inr, suc, zero, List, [], ◌∷◌, ◌++◌, map, length, Bool, true, false, Option, Some, None, cond, slice_index_or, refl, sym, subst}
use Rattle.std.specs.Prelude.{⊤}
use Rattle.std.specs.List.{filter, flat_map, range_with_len}
use Rattle.chess_model.specs.declared.man.Kind.{Kind}
use Rattle.chess_model.specs.declared.man.Kind.TheVariants.{Pawn, Knight, Bishop, Rook, Queen, King}
use Rattle.chess_model.specs.declared.man.Man.{Man}
use Rattle.chess_model.specs.declared.moves.Move.{Move}
use Rattle.chess_model.specs.declared.moves.Move.TheVariants.{Plain, Castle, Drop}
use Rattle.chess_model.specs.Placement.{man_at}
use Rattle.chess_model.specs.Holdings.{count_in}
use Rattle.chess_model.specs.Position.{Position, hand_of_side}
use Rattle.chess_model.specs.Allowed.{IsPromotion, HasPromotion, GoesAs, IsMove, Allowed}
use Rattle.chess_model.specs.Tests.{squares, is_allowed}
use Rattle.chess_model.specs.AllMoves.{promotions, dropped_kinds, moves_from, board_moves, drop_moves, allowed_moves, move_place}
use Rattle.chess_model.specs.Result.{IsOnBoard}
use Rattle.chess_model.specs.Laws.{MovesAreListed}
use Rattle.chess_model.proofs.TestsDecide.{Decides-allowed}
use Rattle.chess_model.proofs.Among.{Among, Among-filter, Among-filtered, Among-map, Among-range, Among-append_left, Among-append_right, Among-flat_map, Contains-among, Among-contains}

among_squares : (s : ℕ) → s < 64 → Among s squares
among_squares s less = Among-range 0 64 s (omega arith) (omega arith)

among_promoted : (promo : Option Kind) → IsPromotion promo → Among promo promotions
among_promoted None h = absurd h
among_promoted (Some Pawn) h = absurd h
among_promoted (Some Knight) h = inr (inr (inr (inr (inl refl))))
among_promoted (Some Bishop) h = inr (inr (inr (inl refl)))
among_promoted (Some Rook) h = inr (inr (inl refl))
among_promoted (Some Queen) h = inr (inl refl)
among_promoted (Some King) h = absurd h

among_promotions : (p : Position) (k : Kind) (b : ℕ) (promo : Option Kind) → HasPromotion p.to_move k b promo
    → Among promo promotions
among_promotions p Pawn b promo (inl h) = among_promoted promo h.1
among_promotions p Pawn b promo (inr h) = inl h.1
among_promotions p Knight b promo h = inl h
among_promotions p Bishop b promo h = inl h
among_promotions p Rook b promo h = inl h
among_promotions p Queen b promo h = inl h
among_promotions p King b promo h = inl h

promotion_of_man : (p : Position) (a b : ℕ) (promo : Option Kind) (man : Option Man) → GoesAs p a b promo man
    → Among promo promotions
promotion_of_man p a b promo None h = absurd h
promotion_of_man p a b promo (Some m) h = among_promotions p m.kind b promo h.2

among_dropped : (p : Position) (k : Kind) → 0 < count_in (hand_of_side p p.to_move) k → Among k dropped_kinds
among_dropped p Pawn h = inl refl
among_dropped p Knight h = inr (inl refl)
among_dropped p Bishop h = inr (inr (inl refl))
among_dropped p Rook h = inr (inr (inr (inl refl)))
among_dropped p Queen h = inr (inr (inr (inr (inl refl))))
among_dropped p King h = absurd (omega arith)

-- each plain move and castling that is allowed is listed, and so is each drop
pub on_board : (p : Position) (m : Move) → IsOnBoard m → IsMove p m → Among m board_moves
unfolding board_moves
on_board p (Plain a b promo) here h =
    let becomes : Among (Plain a b promo) (map (Plain a b) promotions) =
    Among-map (Plain a b) promotions promo (promotion_of_man p a b promo (man_at p.men a) h.goes) in
    let from : Among (Plain a b promo) (moves_from a) =
    Among-flat_map (λ t. map (Plain a t) promotions) squares b (Plain a b promo) (among_squares b h.to) becomes in
    Among-append_left (flat_map moves_from squares) (Castle false ∷ Castle true ∷ []) (Plain a b promo)
    (Among-flat_map moves_from squares a (Plain a b promo) (among_squares a h.from) from)
on_board p (Castle false) here h =
    Among-append_right (flat_map moves_from squares) (Castle false ∷ Castle true ∷ []) (Castle false) (inl refl)
on_board p (Castle true) here h =
    Among-append_right (flat_map moves_from squares) (Castle false ∷ Castle true ∷ []) (Castle true) (inr (inl refl))
on_board p (Drop k to) here h = absurd here

pub from_hand : (p : Position) (k : Kind) (to : ℕ) → IsMove p (Drop k to) → Among (Drop k to) drop_moves
unfolding drop_moves
from_hand p k to h =
    Among-flat_map (λ j. map (Drop j) squares) dropped_kinds k (Drop k to) (among_dropped p k h.held)
    (Among-map (Drop k) squares to (among_squares to h.square))

listed : (p : Position) (m : Move) → IsMove p m → Among m (board_moves ++ drop_moves)
listed p (Plain a b promo) h =
    Among-append_left board_moves drop_moves (Plain a b promo) (on_board p (Plain a b promo) tt h)
listed p (Castle long) h = Among-append_left board_moves drop_moves (Castle long) (on_board p (Castle long) tt h)
listed p (Drop k to) h = Among-append_right board_moves drop_moves (Drop k to) (from_hand p k to h)

pub Among-allowed : (p : Position) (m : Move) → Allowed p m → Among m (allowed_moves p)
unfolding allowed_moves
Among-allowed p m h =
    Among-filter (is_allowed p) (board_moves ++ drop_moves) m (listed p m h.move) ((Decides-allowed p m).1 h)

pub allowed-among : (p : Position) (m : Move) → Among m (allowed_moves p) → Allowed p m
unfolding allowed_moves
allowed-among p m a = (Decides-allowed p m).0 (Among-filtered (is_allowed p) (board_moves ++ drop_moves) m a).1

places_follow : map move_place (board_moves ++ drop_moves) ≡ range_with_len 0 20802
unfolding board_moves drop_moves
places_follow = refl

-- elements whose places are the numbers of a range come in the order of the places
Below : ℕ → List Move → Type 0
Below n [] = ⊤
Below n (x ∷ xs) = (n ≤ move_place x) × Below (move_place x + 1) xs

range_below : (a n : ℕ) (xs : List Move) → map move_place xs ≡ range_with_len a n → Below a xs
unfolding Below
range_below a n [] e = tt
range_below a zero (x ∷ xs) e = absurd (let t : move_place x ∷ map move_place xs ≡ [] = e in cc)
range_below a (suc n) (x ∷ xs) e =
    let first : move_place x ≡ a =
    (let t : move_place x ∷ map move_place xs ≡ a ∷ range_with_len (a + 1) n = e in cc) in
    let rest : map move_place xs ≡ range_with_len (a + 1) n =
    (let t : move_place x ∷ map move_place xs ≡ a ∷ range_with_len (a + 1) n = e in cc) in
    (omega arith, subst (λ k. Below (k + 1) xs) (sym first) (range_below (a + 1) n xs rest))

below_less : (a b : ℕ) (xs : List Move) → a ≤ b → Below b xs → Below a xs
unfolding Below
below_less a b [] h below = tt
below_less a b (x ∷ xs) h below = (omega (arith, below.0), below.1)

below_kept : (p : Position) (b : Bool) (x : Move) (rest : List Move) (n : ℕ) → n ≤ move_place x
    → Below (move_place x + 1) rest →
    Below n (cond b (x ∷ rest) rest)
unfolding Below
below_kept p true x rest n h below = (h, below)
below_kept p false x rest n h below = below_less n (move_place x + 1) rest (omega arith) below

below_filter : (p : Position) (xs : List Move) (n : ℕ) → Below n xs → Below n (filter (is_allowed p) xs)
unfolding Below
below_filter p [] n h = tt
below_filter p (x ∷ xs) n h =
    below_kept p (is_allowed p x) x (filter (is_allowed p) xs) n h.0 (below_filter p xs (move_place x + 1) h.1)

at_least : (xs : List Move) (n j : ℕ) (d : Move) → Below n xs → j < length xs → n ≤ move_place (slice_index_or xs j d)
unfolding Below
at_least [] n j d below less = absurd (omega arith)
at_least (x ∷ xs) n zero d below less = below.0
at_least (x ∷ xs) n (suc j) d below less =
    let later = at_least xs (move_place x + 1) j d below.1 (omega arith) in omega (arith, below.0, later)

pairs : (xs : List Move) (n i j : ℕ) (d : Move) → Below n xs → i < j → j < length xs →
    move_place (slice_index_or xs i d) < move_place (slice_index_or xs j d)
unfolding Below
pairs [] n i j d below less within = absurd (omega arith)
pairs (x ∷ xs) n i zero d below less within = absurd (omega arith)
pairs (x ∷ xs) n zero (suc j) d below less within =
    let later = at_least xs (move_place x + 1) j d below.1 (omega arith) in omega (arith, later)
pairs (x ∷ xs) n (suc i) (suc j) d below less within =
    pairs xs (move_place x + 1) i j d below.1 (omega arith) (omega arith)

pub moves_listed : MovesAreListed
unfolding allowed_moves
moves_listed = record {
  exact = λ p m. (
    λ c. allowed-among p m (Among-contains (allowed_moves p) m c),
    λ h. Contains-among (allowed_moves p) m (Among-allowed p m h),
  );
  ordered = λ p i j d less within.
      pairs (allowed_moves p) 0 i j d
      (below_filter p (board_moves ++ drop_moves) 0 (range_below 0 20802 (board_moves ++ drop_moves) places_follow))
      less within;
  places = places_follow;
}
