-- The draws that a player may claim: fifty moves without a pawn's move or a capture, and a position that stands for the
-- third time (FIDE Laws 9.2 and 9.3).
use Rattle.std.specs.Prelude.{ℕ, ◌+◌, ◌<◌, ◌↔◌, IsTrue, Bool, true, false, ◌&&◌, nat_eq, nat_le, if◌then◌else◌, List, length, map, take, count_by, Option, Some, None}
use Rattle.std.specs.Bool.{beq}
use Rattle.std.specs.List.{list_all, list_any, range_with_len}
use Rattle.chess_model.specs.declared.man.Man.{Man}
use Rattle.chess_model.specs.declared.moves.Move.{Move}
use Rattle.chess_model.specs.declared.moves.Move.TheVariants.{Plain}
use Rattle.chess_model.specs.declared.rights.Rights.{Rights}
use Rattle.chess_model.specs.declared.variant.Variant.{Variant}
use Rattle.chess_model.specs.Men.{same_colour, same_kind}
use Rattle.chess_model.specs.Placement.{Placement, man_at}
use Rattle.chess_model.specs.MoveList.{HalfMove, moves_of, is_en_passant}
use Rattle.chess_model.specs.Position.{Position, position_after}
use Rattle.chess_model.specs.Tests.{squares, is_allowed}

-- 100 half-moves without a pawn's move, a capture or a drop
abbrev pub is_fifty : Position → Bool
is_fifty p = nat_le 100 p.quiet

-- whether two squares hold the same, marks of promotion aside
abbrev pub same_man : Option Man → Option Man → Bool
same_man None None = true
same_man None (Some n) = false
same_man (Some m) None = false
same_man (Some m) (Some n) = same_colour m.colour n.colour && same_kind m.kind n.kind

abbrev pub same_placement : Placement → Placement → Bool
same_placement P Q = list_all (λ s. same_man (man_at P s) (man_at Q s)) squares

abbrev pub same_rights : Rights → Rights → Bool
same_rights r s =
    beq r.white_short s.white_short && beq r.white_long s.white_long &&
    beq r.black_short s.black_short && beq r.black_long s.black_long

abbrev pub same_square : Option ℕ → Option ℕ → Bool
same_square None None = true
same_square None (Some t) = false
same_square (Some s) None = false
same_square (Some s) (Some t) = nat_eq s t

-- whether a pawn on a may take en passant on s
abbrev pub may_pass : Position → ℕ → ℕ → Bool
may_pass p s a = is_en_passant p.men a s && is_allowed p (Plain a s None)

-- the square, where some pawn may take en passant on it
abbrev pub if_taken : Position → Option ℕ → Option ℕ
if_taken p None = None
if_taken p (Some s) = if list_any (may_pass p s) squares then Some s else None

-- the en passant square, where it counts: where a capture on it is allowed
abbrev pub counted_en_passant : Position → Option ℕ
counted_en_passant p = if_taken p p.en_passant

-- whether two positions are the same
unfoldable pub same_position : Position → Position → Bool
same_position p q =
    same_placement p.men q.men && same_colour p.to_move q.to_move && same_rights p.rights q.rights &&
    same_square (counted_en_passant p) (counted_en_passant q)

-- the half-moves of one board alone
abbrev pub alone_on : ℕ → List Move → List HalfMove
alone_on b ms = map (λ m. record { board = b; what = m }) ms

-- the position of a board after its first n half-moves
abbrev pub after_first : Variant → List HalfMove → ℕ → ℕ → Position
after_first v T b n = position_after v (alone_on b (take n (moves_of b T))) b

-- the positions of a board from the start of the game to the present one
unfoldable pub positions_of : Variant → List HalfMove → ℕ → List Position
positions_of v T b = map (after_first v T b) (range_with_len 0 (length (moves_of b T) + 1))

-- the present position stands at least for the third time
unfoldable pub is_threefold : Variant → List HalfMove → ℕ → Bool
is_threefold v T b = nat_le 3 (count_by (same_position (position_after v T b)) (positions_of v T b))

-- the present position of a board has stood after two earlier numbers of half-moves
pub record HasStoodTwice (v : Variant) (T : List HalfMove) (b : ℕ) : Type 0 where
  pub first : ℕ
  pub second : ℕ
  pub order : first < second
  pub before : second < length (moves_of b T)
  pub first_same : IsTrue (same_position (position_after v T b) (after_first v T b first))
  pub second_same : IsTrue (same_position (position_after v T b) (after_first v T b second))

-- a position stands for the third time exactly where it has stood twice before
abbrev pub ThirdTimes : Type 0
ThirdTimes = (v : Variant) (T : List HalfMove) (b : ℕ) → IsTrue (is_threefold v T b) ↔ HasStoodTwice v T b
