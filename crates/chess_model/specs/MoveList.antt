-- Half-moves, lists of them for one or two boards, and the placements that they lead to (FIDE Laws 3.1, 3.7, 3.8).
use Rattle.std.specs.Prelude.{ℕ, Bool, true, false, ◌&&◌, nat_eq, not, is_none, if◌then◌else◌, List, [], ◌∷◌, map, filter, Option, Some, None, slice_set}
use Rattle.chess_model.specs.declared.man.Colour.{Colour}
use Rattle.chess_model.specs.declared.man.Colour.TheVariants.{White}
use Rattle.chess_model.specs.declared.man.Kind.{Kind}
use Rattle.chess_model.specs.declared.man.Kind.TheVariants.{Pawn, Knight, Bishop, Rook, Queen, King}
use Rattle.chess_model.specs.declared.man.Man.{Man}
use Rattle.chess_model.specs.declared.moves.Move.{Move}
use Rattle.chess_model.specs.declared.moves.Move.TheVariants.{Plain, Castle, Drop}
use Rattle.chess_model.specs.declared.variant.Variant.{Variant}
use Rattle.chess_model.specs.Squares.{file_of, rank_of, square_at}
use Rattle.chess_model.specs.Placement.{Placement, man_at, opposite, unpromoted, array_of, king_home, rook_home, king_end, rook_end}

abbrev pub is_pawn_kind : Kind → Bool
is_pawn_kind Pawn = true
is_pawn_kind Knight = false
is_pawn_kind Bishop = false
is_pawn_kind Rook = false
is_pawn_kind Queen = false
is_pawn_kind King = false

-- whether a pawn stands there
abbrev pub is_pawn : Option Man → Bool
is_pawn None = false
is_pawn (Some m) = is_pawn_kind m.kind

-- whether a move from a to b takes en passant: a pawn changes its file to an empty square (FIDE 3.7.3)
abbrev pub is_en_passant : Placement → ℕ → ℕ → Bool
is_en_passant P a b = is_pawn (man_at P a) && (is_none (man_at P b) && not (nat_eq (file_of a) (file_of b)))

-- the square on which a move from a to b takes: its target, or by en passant that of the pawn it passes
abbrev pub taking_square : Placement → ℕ → ℕ → ℕ
taking_square P a b = if is_en_passant P a b then square_at (file_of b) (rank_of a) else b

-- what stands on the target of a move: the man that moved, or what a pawn became (FIDE 3.7.5)
abbrev pub landed : Option Man → Option Kind → Option Man
landed man None = man
landed None (Some k) = None
landed (Some m) (Some k) = Some (record { colour = m.colour; kind = k; promoted = true })

-- the men of two squares leave these and go to two others
abbrev pub two_moved : Placement → ℕ → ℕ → ℕ → ℕ → Placement
two_moved P a b x y = slice_set (slice_set (slice_set (slice_set P a None) b None) x (man_at P a)) y (man_at P b)

-- the placement after a half-move of that colour
abbrev pub place_after : Variant → Placement → Colour → Move → Placement
place_after v P c (Plain a b promo) =
    slice_set (slice_set (slice_set P (taking_square P a b) None) a None) b (landed (man_at P a) promo)
place_after v P c (Castle long) = two_moved P (king_home v c) (rook_home v c long) (king_end c long) (rook_end c long)
place_after v P c (Drop k to) = slice_set P to (unpromoted c k)

-- the man that a half-move takes
abbrev pub taken : Placement → Move → Option Man
taken P (Plain a b promo) = man_at P (taking_square P a b)
taken P (Castle long) = None
taken P (Drop k to) = None

-- a half-move of a game on one or two boards, which have the numbers 1 and 2
pub record HalfMove : Type 0 where
  pub board : ℕ
  pub what : Move

-- a half-move on a board, and one of a game on one board
abbrev pub on : ℕ → Move → HalfMove
on number m = record { board = number; what = m }

abbrev pub on_board : Move → HalfMove
on_board m = on 1 m

-- the half-moves of a board
abbrev pub moves_of : ℕ → List HalfMove → List Move
moves_of b T = map (λ h. h.what) (filter (λ h. nat_eq h.board b) T)

-- a half-move in its setting: the placement before it, and whose it is
pub record Ply : Type 0 where
  pub before : Placement
  pub by : Colour
  pub what : Move

-- each half-move of a list in its setting; the colours alternate (FIDE 1.1)
abbrev pub settings : Variant → Placement → Colour → List Move → List Ply
settings v P c [] = []
settings v P c (m ∷ ms) = record { before = P; by = c; what = m } ∷ settings v (place_after v P c m) (opposite c) ms

-- the placement after a list of half-moves
abbrev pub place_from : Variant → Placement → Colour → List Move → Placement
place_from v P c [] = P
place_from v P c (m ∷ ms) = place_from v (place_after v P c m) (opposite c) ms

-- who is to move after a list of half-moves
abbrev pub side_from : Colour → List Move → Colour
side_from c [] = c
side_from c (m ∷ ms) = side_from (opposite c) ms

-- the half-moves of a board in their settings, from the start of the game; White begins
abbrev pub history : Variant → List HalfMove → ℕ → List Ply
history v T b = settings v (array_of v) White (moves_of b T)
