-- The spellings of move words, as players type them at FICS: the two squares of a move, the algebraic notation of the
-- FIDE Laws (appendix C), castling, and drops. A word is written part after part, and each part is one of a few texts.
use Rattle.std.specs.Prelude.{◌≡◌, ◌⊎◌, ℕ, ◌+◌, ◌/◌, ◌%◌, nat_lt, if◌then◌else◌, Bool, true, false, List, [], ◌∷◌, ◌++◌, Option, Some, None, codes}
use Rattle.chess_model.specs.declared.man.Kind.{Kind}
use Rattle.chess_model.specs.declared.man.Kind.TheVariants.{Pawn, Knight, Bishop, Rook, Queen, King}
use Rattle.chess_model.specs.declared.moves.MoveWord.{MoveWord}
use Rattle.chess_model.specs.declared.moves.MoveWord.TheVariants.{Coordinate, Named, Castle, Drop}

abbrev pub Text : Type 0
Text = List ℕ

-- the text is one of these
abbrev pub OneOf : List Text → Text → Type 0
OneOf [] text = ⊥
OneOf (choice ∷ choices) text = (text ≡ choice) ⊎ OneOf choices text

-- the text has one of the first texts, then one of the second ones, and so on to its end
abbrev pub MadeOf : List (List Text) → Text → Type 0
MadeOf [] text = text ≡ []
MadeOf (part ∷ parts) text =
    (first : Text) × (rest : Text) × OneOf part first × MadeOf parts rest × (text ≡ first ++ rest)

-- the letter of a file, `a` for 0 to `h` for 7
abbrev pub file_letters : ℕ → List Text
file_letters file = if nat_lt file 8 then ((97 + file) ∷ []) ∷ [] else []

-- the digit of a rank, `1` for 0 to `8` for 7
abbrev pub rank_digits : ℕ → List Text
rank_digits rank = if nat_lt rank 8 then ((49 + rank) ∷ []) ∷ [] else []

-- the name of a square, as `e4`
abbrev pub square_names : ℕ → List Text
square_names square = if nat_lt square 64 then ((97 + square % 8) ∷ (49 + square / 8) ∷ []) ∷ [] else []

-- a file that narrows the origin, or nothing
abbrev pub origin_files : Option ℕ → List Text
origin_files None = [] ∷ []
origin_files (Some file) = file_letters file

-- a rank that narrows the origin, or nothing
abbrev pub origin_ranks : Option ℕ → List Text
origin_ranks None = [] ∷ []
origin_ranks (Some rank) = rank_digits rank

-- the capital letter of a kind of man; a pawn's may be left out
abbrev pub man_letters : Kind → List Text
man_letters Pawn = [] ∷ codes "P" ∷ []
man_letters Knight = codes "N" ∷ []
man_letters Bishop = codes "B" ∷ []
man_letters Rook = codes "R" ∷ []
man_letters Queen = codes "Q" ∷ []
man_letters King = codes "K" ∷ []

-- the letter, of any case, of what a pawn becomes
abbrev pub promotion_letters : Kind → List Text
promotion_letters Queen = codes "Q" ∷ codes "q" ∷ []
promotion_letters Rook = codes "R" ∷ codes "r" ∷ []
promotion_letters Bishop = codes "B" ∷ codes "b" ∷ []
promotion_letters Knight = codes "N" ∷ codes "n" ∷ []
promotion_letters Pawn = []
promotion_letters King = []

-- the letter, of any case, of a man that is dropped
abbrev pub drop_letters : Kind → List Text
drop_letters Pawn = codes "P" ∷ codes "p" ∷ []
drop_letters Knight = codes "N" ∷ codes "n" ∷ []
drop_letters Bishop = codes "B" ∷ codes "b" ∷ []
drop_letters Rook = codes "R" ∷ codes "r" ∷ []
drop_letters Queen = codes "Q" ∷ codes "q" ∷ []
drop_letters King = []

-- what may be left out: a dash, a mark of capture, the sign before a promotion, a mark of check or mate
abbrev pub dashes : List Text
dashes = [] ∷ codes "-" ∷ []

abbrev pub capture_marks : List Text
capture_marks = [] ∷ codes "x" ∷ []

abbrev pub equals : List Text
equals = [] ∷ codes "=" ∷ []

abbrev pub marks : List Text
marks = [] ∷ codes "+" ∷ codes "#" ∷ []

-- a promotion's letter with or without a sign before it, or nothing; then what follows
abbrev pub promotion_and : Option Kind → List (List Text) → List (List Text)
promotion_and None parts = parts
promotion_and (Some kind) parts = equals ∷ promotion_letters kind ∷ parts

-- castling, `long` to the queen's side
abbrev pub castlings : Bool → List Text
castlings false = codes "O-O" ∷ codes "o-o" ∷ codes "0-0" ∷ []
castlings true = codes "O-O-O" ∷ codes "o-o-o" ∷ codes "0-0-0" ∷ []

-- the parts of a word, each with the texts that may stand for it
abbrev pub parts_of : MoveWord → List (List Text)
parts_of (Coordinate from to promo) = square_names from ∷ dashes ∷ square_names to ∷ promotion_and promo []
parts_of (Named kind file rank to promo) =
    man_letters kind ∷ origin_files file ∷ origin_ranks rank ∷ capture_marks ∷ square_names to
    ∷ promotion_and promo (marks ∷ [])
parts_of (Castle long) = castlings long ∷ marks ∷ []
parts_of (Drop kind to) = drop_letters kind ∷ (codes "@" ∷ []) ∷ square_names to ∷ marks ∷ []

-- the text is a spelling of the word
abbrev pub Spells : Text → MoveWord → Type 0
Spells text word = MadeOf (parts_of word) text

-- the text spells two squares
abbrev pub SpellsSquares : Text → Type 0
SpellsSquares text = (from : ℕ) × (to : ℕ) × (promo : Option Kind) × Spells text (Coordinate from to promo)

-- the word is what the text is read as: a text that spells two squares is read as these alone, and not by its algebraic
-- spelling
abbrev pub IsReading : Text → MoveWord → Type 0
IsReading text (Named kind file rank to promo) = Spells text (Named kind file rank to promo) × (SpellsSquares text → ⊥)
IsReading text word = Spells text word

-- no text has two readings
abbrev pub HasOneReading : Type 0
HasOneReading = (text : Text) (a b : MoveWord) → IsReading text a → IsReading text b → a ≡ b
