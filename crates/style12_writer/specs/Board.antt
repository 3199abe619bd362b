-- The fields of a style 12 line that show the position (FICS style 12).
use Rattle.std.specs.Prelude.{◌≡◌, ℕ, ◌+◌, Bool, true, false, List, [], ◌∷◌, ◌++◌, map, slice_index_or, Option, Some, None, codes, decimal, refl}
use Rattle.chess_model.specs.declared.man.Colour.{Colour}
use Rattle.chess_model.specs.declared.man.Colour.TheVariants.{White, Black}
use Rattle.chess_model.specs.declared.man.Kind.{Kind}
use Rattle.chess_model.specs.declared.man.Man.{Man}
use Rattle.chess_model.specs.declared.variant.Variant.TheVariants.{Chess}
use Rattle.chess_model.specs.Placement.{man_at, array_of}
use Rattle.chess_model.specs.Squares.{square_at}
use Rattle.move_writer.specs.Letters.{letter_of}

-- a man's letter, in lower case for Black
abbrev pub man_letter : Colour → Kind → ℕ
man_letter White kind = letter_of kind
man_letter Black kind = letter_of kind + 32

-- what a square shows: its man's letter, or `-`
abbrev pub square_letter : Option Man → ℕ
square_letter None = 45
square_letter (Some man) = man_letter man.colour man.kind

-- the eight squares of a rank from file a to file h, the ranks counted from 0
unfoldable pub rank_text : List (Option Man) → ℕ → List ℕ
rank_text men rank = map (λ file. square_letter (man_at men (square_at file rank))) (0 ∷ 1 ∷ 2 ∷ 3 ∷ 4 ∷ 5 ∷ 6 ∷ 7 ∷ [])

-- the eight ranks, White's 8th first, whoever is to move
unfoldable pub ranks : List (Option Man) → List (List ℕ)
ranks men = map (rank_text men) (7 ∷ 6 ∷ 5 ∷ 4 ∷ 3 ∷ 2 ∷ 1 ∷ 0 ∷ [])

-- 'color whose turn it is to move'
abbrev pub colour_to_move : Colour → List ℕ
colour_to_move White = codes "W"
colour_to_move Black = codes "B"

-- '-1 if the previous move was not a double pawn push, otherwise the board file, 0 to 7 for a to h'
abbrev pub double_push : Option ℕ → List ℕ
double_push None = codes "-1"
double_push (Some file) = decimal file

-- a flag, as whether a castling is still possible
abbrev pub flag_text : Bool → List ℕ
flag_text false = codes "0"
flag_text true = codes "1"

-- 'can White still castle short', long, and whether Black can: 0 is no and 1 is yes
unfoldable pub castle_flags : List Bool → List (List ℕ)
castle_flags rights =
    flag_text (slice_index_or rights 0 false)
    ∷ flag_text (slice_index_or rights 1 false)
    ∷ flag_text (slice_index_or rights 2 false)
    ∷ flag_text (slice_index_or rights 3 false)
    ∷ []

-- at the start of a game: the home ranks of both sides, and an empty one
example_home_ranks : rank_text (array_of Chess) 7 ++ rank_text (array_of Chess) 6 ++ rank_text (array_of Chess) 4
    ++ rank_text (array_of Chess) 0 ≡ codes "rnbqkbnrpppppppp--------RNBQKBNR"
unfolding rank_text
example_home_ranks = refl
