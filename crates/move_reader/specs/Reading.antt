-- Reading a move word from left to right.
use Rattle.std.specs.Prelude.{ℕ, ◌-◌, ◌==◌, nat_le, ◌&&◌, ◌||◌, if◌then◌else◌, Bool, true, false, List, [], ◌∷◌, length, take, drop, Option, Some, None, codes, bytes_eq}
use Rattle.chess_model.specs.declared.man.Kind.{Kind}
use Rattle.chess_model.specs.declared.man.Kind.TheVariants.{Pawn, Knight, Bishop, Rook, Queen, King}
use Rattle.chess_model.specs.declared.moves.MoveWord.{MoveWord}
use Rattle.chess_model.specs.declared.moves.MoveWord.TheVariants.{Coordinate, Named, Castle, Drop}
use Rattle.chess_model.specs.Squares.{square_at}

-- what stands beside a letter in a table
abbrev pub lookup : List (ℕ × Kind) → ℕ → Option Kind
lookup [] letter = None
lookup (row ∷ rows) letter = if letter == row.0 then Some row.1 else lookup rows letter

abbrev pub men : List (ℕ × Kind)
men = (75, King) ∷ (81, Queen) ∷ (82, Rook) ∷ (66, Bishop) ∷ (78, Knight) ∷ (80, Pawn) ∷ []

abbrev pub promotable : List (ℕ × Kind)
promotable =
    (81, Queen) ∷ (113, Queen) ∷ (82, Rook) ∷ (114, Rook) ∷ (66, Bishop) ∷ (98, Bishop) ∷ (78, Knight) ∷ (110, Knight)
    ∷ []

abbrev pub droppable : List (ℕ × Kind)
droppable =
    (80, Pawn) ∷ (112, Pawn) ∷ (78, Knight) ∷ (110, Knight) ∷ (66, Bishop) ∷ (98, Bishop) ∷ (82, Rook) ∷ (114, Rook)
    ∷ (81, Queen)
    ∷ (113, Queen) ∷ []

abbrev pub man_of : ℕ → Option Kind
man_of = lookup men

abbrev pub file_of_letter : ℕ → Option ℕ
file_of_letter letter = if nat_le 97 letter && nat_le letter 104 then Some (letter - 97) else None

abbrev pub rank_of_digit : ℕ → Option ℕ
rank_of_digit digit = if nat_le 49 digit && nat_le digit 56 then Some (digit - 49) else None

-- a first byte that means something, and the rest; or nothing and all
abbrev pub told : {V : Type 0} → Option V → ℕ → List ℕ → Option V × List ℕ
told None byte rest = (None, byte ∷ rest)
told (Some value) byte rest = (Some value, rest)

abbrev pub leading : {V : Type 0} → (ℕ → Option V) → List ℕ → Option V × List ℕ
leading meaning [] = (None, [])
leading meaning (byte ∷ rest) = told (meaning byte) byte rest

-- the text behind a first byte, if it is that one
abbrev pub behind_byte : ℕ → List ℕ → List ℕ
behind_byte byte [] = []
behind_byte byte (first ∷ rest) = if first == byte then rest else first ∷ rest

abbrev pub squared : Option ℕ → Option ℕ → List ℕ → Option (ℕ × List ℕ)
squared (Some file) (Some rank) rest = Some (square_at file rank, rest)
squared (Some file) None rest = None
squared None rank rest = None

-- the square whose name stands first, and the rest
abbrev pub leading_square : List ℕ → Option (ℕ × List ℕ)
leading_square [] = None
leading_square (letter ∷ []) = None
leading_square (letter ∷ digit ∷ rest) = squared (file_of_letter letter) (rank_of_digit digit) rest

-- a promotion, or none, where nothing but the wanted end follows
abbrev pub ended : {V : Type 0} → V → Bool → Option V
ended value end = if end then Some value else None

abbrev pub is_mark : List ℕ → Bool
is_mark [] = true
is_mark (byte ∷ []) = byte == 43 || byte == 35
is_mark (byte ∷ more ∷ rest) = false

abbrev pub is_empty : List ℕ → Bool
is_empty [] = true
is_empty (byte ∷ rest) = false

-- a letter of a promotion was read, or wasn't and nothing stands in its place
abbrev pub promoted : Option Kind → Bool → Bool → Option (Option Kind)
promoted (Some kind) end nothing = ended (Some kind) end
promoted None end nothing = ended None nothing

-- the promotion that all of the text spells
abbrev pub promotion_spelled : (List ℕ → Bool) → List ℕ → Option (Option Kind)
promotion_spelled is_end text =
    let letter = leading (lookup promotable) (behind_byte 61 text) in promoted letter.0 (is_end letter.1) (is_end text)

abbrev pub to_square : (ℕ → Option Kind → MoveWord) → ℕ → Option (Option Kind) → Option MoveWord
to_square word to None = None
to_square word to (Some promo) = Some (word to promo)

-- a target and a promotion
abbrev pub target_of : (ℕ → Option Kind → MoveWord) → (List ℕ → Bool) → Option (ℕ × List ℕ) → Option MoveWord
target_of word is_end None = None
target_of word is_end (Some found) = to_square word found.0 (promotion_spelled is_end found.1)

abbrev pub coordinate_from : Option (ℕ × List ℕ) → Option MoveWord
coordinate_from None = None
coordinate_from (Some from) = target_of (Coordinate from.0) is_empty (leading_square (behind_byte 45 from.1))

abbrev pub coordinate_of : List ℕ → Option MoveWord
coordinate_of text = coordinate_from (leading_square text)

abbrev pub or_pawn : Option Kind → Kind
or_pawn None = Pawn
or_pawn (Some kind) = kind

-- the file and the rank that were read are the target, if nothing stands behind them that can be one
abbrev pub named_by : Kind → Option ℕ → Option ℕ → List ℕ → Option (ℕ × List ℕ) → Option MoveWord
named_by kind file rank rest (Some found) = target_of (Named kind file rank) is_mark (Some found)
named_by kind file rank rest None = target_of (Named kind None None) is_mark (squared file rank rest)

abbrev pub named_of : List ℕ → Option MoveWord
named_of text =
    let man = leading man_of text in
    let file = leading file_of_letter man.1 in
    let rank = leading rank_of_digit file.1 in
    named_by (or_pawn man.0) file.0 rank.0 rank.1 (leading_square (behind_byte 120 rank.1))

-- the text is the word, perhaps with a mark behind it
abbrev pub is_marked : List ℕ → List ℕ → Bool
is_marked word text = bytes_eq (take (length word) text) word && is_mark (drop (length word) text)

abbrev pub is_castling : List ℕ → List ℕ → List ℕ → List ℕ → Bool
is_castling a b c text = is_marked a text || is_marked b text || is_marked c text

abbrev pub castle_of : List ℕ → Option MoveWord
castle_of text =
    if is_castling (codes "O-O") (codes "o-o") (codes "0-0") text then Some (Castle false) else
    (if is_castling (codes "O-O-O") (codes "o-o-o") (codes "0-0-0") text then Some (Castle true) else None)

abbrev pub dropped_at : Kind → Option (ℕ × List ℕ) → Option MoveWord
dropped_at man None = None
dropped_at man (Some found) = if is_mark found.1 then Some (Drop man found.0) else None

abbrev pub dropped : Option Kind → List ℕ → Option MoveWord
dropped None text = None
dropped (Some man) text = dropped_at man (leading_square text)

abbrev pub drop_of : List ℕ → Option MoveWord
drop_of [] = None
drop_of (letter ∷ []) = None
drop_of (letter ∷ at ∷ rest) = if at == 64 then dropped (lookup droppable letter) rest else None

abbrev pub first_of_two : Option MoveWord → Option MoveWord → Option MoveWord
first_of_two None b = b
first_of_two (Some word) b = Some word

-- the word that the text is read as
abbrev pub reading : List ℕ → Option MoveWord
reading text =
    first_of_two (coordinate_of text) (first_of_two (named_of text) (first_of_two (castle_of text) (drop_of text)))
