-- Castling rights, the en passant square and the quiet count (FIDE Laws 3.8.2, 3.7.3, 9.3).
use Rattle.std.specs.Prelude.{ℕ, ◌+◌, ◌/◌, Bool, true, false, ◌&&◌, ◌||◌, not, nat_eq, is_none, if◌then◌else◌, List, length, reverse, take_while, Option, Some, None, option_and_then}
use Rattle.std.specs.List.{list_all, last_or}
use Rattle.chess_model.specs.declared.man.Colour.{Colour}
use Rattle.chess_model.specs.declared.man.Colour.TheVariants.{White, Black}
use Rattle.chess_model.specs.declared.moves.Move.{Move}
use Rattle.chess_model.specs.declared.moves.Move.TheVariants.{Plain, Castle, Drop}
use Rattle.chess_model.specs.declared.rights.Rights.{Rights}
use Rattle.chess_model.specs.declared.variant.Variant.{Variant}
use Rattle.chess_model.specs.Squares.{ranks_apart}
use Rattle.chess_model.specs.Placement.{Placement, man_at, king_home, rook_home}
use Rattle.chess_model.specs.MoveList.{is_pawn, taken, Ply}

-- whether a half-move of that colour leaves or reaches the square s; castling leaves the king's home
abbrev pub touches : Variant → Colour → Move → ℕ → Bool
touches v by (Plain a b promo) s = nat_eq a s || nat_eq b s
touches v by (Castle long) s = nat_eq (king_home v by) s
touches v by (Drop k to) s = nat_eq to s

-- whether a half-move leaves the homes of that colour's king and rook alone
abbrev pub keeps_right : Variant → Colour → Bool → Colour → Move → Bool
keeps_right v c long by m = not (touches v by m (king_home v c)) && not (touches v by m (rook_home v c long))

-- a right stands while no half-move has left or reached the homes of that king and rook
abbrev pub right_stands : Variant → List Ply → Colour → Bool → Bool
right_stands v H c long = list_all (λ h. keeps_right v c long h.by h.what) H

-- the four rights
abbrev pub rights_after : Variant → List Ply → Rights
rights_after v H = record {
  white_short = right_stands v H White false;
  white_long = right_stands v H White true;
  black_short = right_stands v H Black false;
  black_long = right_stands v H Black true;
}

-- the square that a half-move passes over, where it is a double push of a pawn
abbrev pub passed_over : Placement → Move → Option ℕ
passed_over P (Plain a b promo) =
    if is_pawn (man_at P a) && nat_eq (ranks_apart a b) 2 then Some ((a + b) / 2) else None
passed_over P (Castle long) = None
passed_over P (Drop k to) = None

-- the en passant square: the one that the last half-move passed over
abbrev pub en_passant_after : List Ply → Option ℕ
en_passant_after H = option_and_then (λ h. passed_over h.before h.what) (last_or None H)

-- whether a half-move is neither a pawn's, nor a capture, nor a drop
abbrev pub is_quiet : Placement → Move → Bool
is_quiet P (Plain a b promo) = not (is_pawn (man_at P a)) && is_none (taken P (Plain a b promo))
is_quiet P (Castle long) = true
is_quiet P (Drop k to) = false

-- how many half-moves at the end are quiet
abbrev pub quiet_count : List Ply → ℕ
quiet_count H = length (take_while (λ h. is_quiet h.before h.what) (reverse H))
