-- The letters and squares of a written move (FIDE Laws, appendix C).
use Rattle.std.specs.Prelude.{ℕ, ◌+◌, ◌/◌, ◌%◌, List, [], ◌∷◌, ◌++◌, Option, Some, None, codes, refl, ◌≡◌}
use Rattle.chess_model.specs.declared.man.Kind.{Kind}
use Rattle.chess_model.specs.declared.man.Kind.TheVariants.{Pawn, Knight, Bishop, Rook, Queen, King}

-- the letter of a kind of man; the pawn's is that of FICS style 12, since the Laws have none
abbrev pub letter_of : Kind → ℕ
letter_of Pawn = 80
letter_of Knight = 78
letter_of Bishop = 66
letter_of Rook = 82
letter_of Queen = 81
letter_of King = 75

-- the letter of a square's file, `a` to `h`
abbrev pub file_letter : ℕ → ℕ
file_letter square = 97 + square % 8

-- the digit of a square's rank, `1` to `8`
abbrev pub rank_digit : ℕ → ℕ
rank_digit square = 49 + square / 8

-- a square by its file and its rank
abbrev pub square_text : ℕ → List ℕ
square_text square = file_letter square ∷ rank_digit square ∷ []

-- what a pawn becomes on its last rank
abbrev pub promotion_text : Option Kind → List ℕ
promotion_text None = []
promotion_text (Some kind) = codes "=" ++ letter_of kind ∷ []

example_corners : (square_text 0 ++ square_text 7 ++ square_text 28 ++ square_text 63) ≡ codes "a1h1e4h8"
example_corners = refl

example_letters : letter_of Pawn ∷ letter_of Knight ∷ letter_of Bishop ∷ letter_of Rook ∷ letter_of Queen
    ∷ letter_of King ∷ [] ≡ codes "PNBRQK"
example_letters = refl
