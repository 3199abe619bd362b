-- Placements: which man stands on which square, and the placement at the start (FIDE Laws 2.2 and 2.3).
use Rattle.std.specs.Prelude.{◌≡◌, ℕ, ◌%◌, Bool, true, false, List, ◌++◌, map, replicate, Option, Some, None, slice_index_or}
use Rattle.chess_model.specs.declared.man.Colour.{Colour}
use Rattle.chess_model.specs.declared.man.Colour.TheVariants.{White, Black}
use Rattle.chess_model.specs.declared.man.Kind.{Kind}
use Rattle.chess_model.specs.declared.man.Kind.TheVariants.{Pawn, Rook, King}
use Rattle.chess_model.specs.declared.man.Man.{Man}
use Rattle.chess_model.specs.declared.variant.Variant.{Variant}
use Rattle.chess_model.specs.declared.variant.Variant.TheVariants.{Chess, Crazyhouse, Bughouse, Fischer}
use Rattle.chess_model.specs.FischerArrays.{usual_rank, numbered_rank, first_file, last_file}
use Rattle.chess_model.specs.Limits.{arrays}
use Rattle.chess_model.specs.Squares.{square_at}

-- the man on each square, by the square's number
abbrev pub Placement : Type 0
Placement = List (Option Man)

-- the man on a square
abbrev pub man_at : Placement → ℕ → Option Man
man_at P s = slice_index_or P s None

abbrev pub opposite : Colour → Colour
opposite White = Black
opposite Black = White

-- a man of that colour stands there
abbrev pub IsHeldBy : Colour → Option Man → Type 0
IsHeldBy c None = ⊥
IsHeldBy c (Some m) = m.colour ≡ c

-- a man of that colour and kind stands there, promoted or not
abbrev pub IsHeldAs : Colour → Kind → Option Man → Type 0
IsHeldAs c k None = ⊥
IsHeldAs c k (Some m) = (m.colour ≡ c) × (m.kind ≡ k)

-- the rank on which a colour's kings and rooks begin
abbrev pub home_rank : Colour → ℕ
home_rank White = 0
home_rank Black = 7

-- the rank on which a colour's pawns begin
abbrev pub second_rank : Colour → ℕ
second_rank White = 1
second_rank Black = 6

-- the rank on which a colour's pawns are promoted
abbrev pub last_rank : Colour → ℕ
last_rank White = 7
last_rank Black = 0

-- the kinds on the home ranks at the start, from file a to file h; numbers of arrays count modulo how many there are
abbrev pub back_rank : Variant → List Kind
back_rank Chess = usual_rank
back_rank Crazyhouse = usual_rank
back_rank Bughouse = usual_rank
back_rank (Fischer number) = numbered_rank (number % arrays)

-- the file of the king at the start
abbrev pub king_file : Variant → ℕ
king_file v = first_file King (back_rank v)

-- the file of a rook at the start: for long castling the rook on the lesser file, for short the one on the greater
abbrev pub rook_file : Variant → Bool → ℕ
rook_file v true = first_file Rook (back_rank v)
rook_file v false = last_file Rook (back_rank v)

-- a man that isn't promoted
abbrev pub unpromoted : Colour → Kind → Option Man
unpromoted c k = Some (record { colour = c; kind = k; promoted = false })

-- the placement in which both colours have these home ranks, with the pawns before them
abbrev pub array_from : List Kind → Placement
array_from rank =
    map (unpromoted White) rank ++ replicate 8 (unpromoted White Pawn) ++ replicate 32 None
    ++ replicate 8 (unpromoted Black Pawn) ++ map (unpromoted Black) rank

-- the placement of the start
abbrev pub array_of : Variant → Placement
array_of v = array_from (back_rank v)

-- the square on which a colour's king begins
abbrev pub king_home : Variant → Colour → ℕ
king_home v c = square_at (king_file v) (home_rank c)

-- the square on which a colour's rook for long or short castling begins
abbrev pub rook_home : Variant → Colour → Bool → ℕ
rook_home v c long = square_at (rook_file v long) (home_rank c)

-- the square on which the king ends by castling (FIDE 3.8.2)
abbrev pub king_end : Colour → Bool → ℕ
king_end c true = square_at 2 (home_rank c)
king_end c false = square_at 6 (home_rank c)

-- the square on which the rook ends by castling (FIDE 3.8.2)
abbrev pub rook_end : Colour → Bool → ℕ
rook_end c true = square_at 3 (home_rank c)
rook_end c false = square_at 5 (home_rank c)
