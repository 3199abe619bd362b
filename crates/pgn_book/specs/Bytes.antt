-- The bytes of which PGN text is made (the standard of portable game notation, section 7, in this project's profile).
use Rattle.std.specs.Prelude.{◌≡◌, ℕ, Bool, true, false, ◌==◌, ◌&&◌, ◌||◌, nat_le, List, [], ◌∷◌}
use Rattle.std.specs.List.{list_all}

-- whether a byte is one of these
abbrev pub is_among : List ℕ → ℕ → Bool
is_among [] b = false
is_among (x ∷ xs) b = b == x || is_among xs b

-- a blank, a tab, the ends of a line and of a page
abbrev pub spaces : List ℕ
spaces = 32 ∷ 10 ∷ 13 ∷ 9 ∷ 11 ∷ 12 ∷ []

abbrev pub is_space : ℕ → Bool
is_space = is_among spaces

abbrev pub is_digit : ℕ → Bool
is_digit b = nat_le 48 b && nat_le b 57

abbrev pub is_letter : ℕ → Bool
is_letter b = (nat_le 65 b && nat_le b 90) || (nat_le 97 b && nat_le b 122)

-- a letter, a digit or `_`, of which the names of tags are made
abbrev pub is_name_byte : ℕ → Bool
is_name_byte b = is_letter b || (is_digit b || b == 95)

-- `+ # = - / @ ! ? *`
abbrev pub move_signs : List ℕ
move_signs = 43 ∷ 35 ∷ 61 ∷ 45 ∷ 47 ∷ 64 ∷ 33 ∷ 63 ∷ 42 ∷ []

-- a byte of a word: of a tag's name, a number, a move or a result
unfoldable pub is_word_byte : ℕ → Bool
is_word_byte b = is_name_byte b || is_among move_signs b

-- the test holds of each byte
abbrev pub Every : (ℕ → Bool) → List ℕ → Type 0
Every test text = list_all test text ≡ true

-- the text doesn't begin with a byte of which the test holds
abbrev pub StopsBefore : (ℕ → Bool) → List ℕ → Type 0
StopsBefore test [] = Unit {0}
StopsBefore test (b ∷ rest) = test b ≡ false
