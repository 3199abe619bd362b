-- Words of a line: what stands between its blanks.
use Rattle.std.specs.Prelude.{◌≡◌, ℕ, zero, suc, ◌-◌, not, Bool, true, false, unwrap_or, position, List, [], ◌∷◌, length, take, drop, reverse, codes, refl}
use Rattle.std.specs.List.{filter, slice_split}
use Rattle.fics_words.specs.Blank.{is_blank}

-- how many blanks the text begins with
abbrev pub blanks_of : List ℕ → ℕ
blanks_of text = unwrap_or (position (λ b. not (is_blank b)) text) (length text)

-- the text behind the blanks with which it begins
abbrev pub behind_blanks : List ℕ → List ℕ
behind_blanks text = drop (blanks_of text) text

-- the text before the blanks with which it ends
abbrev pub before_blanks : List ℕ → List ℕ
before_blanks text = take (length text - blanks_of (reverse text)) text

-- the text without blanks at its ends
abbrev pub trimmed : List ℕ → List ℕ
trimmed text = before_blanks (behind_blanks text)

-- how long the word is with which the text begins
abbrev pub word_length : List ℕ → ℕ
word_length text = unwrap_or (position is_blank text) (length text)

-- the word with which the text begins
abbrev pub first_word : List ℕ → List ℕ
first_word text = take (word_length text) text

-- the rest of the text, from the next byte behind its first word that isn't a blank
abbrev pub rest_behind_word : List ℕ → List ℕ
rest_behind_word text = behind_blanks (drop (word_length text) text)

-- the word of that number, from 0; empty where there are fewer. The text begins with no blank.
abbrev pub word_numbered : ℕ → List ℕ → List ℕ
word_numbered zero text = first_word text
word_numbered (suc n) text = word_numbered n (rest_behind_word text)

example_trimmed : trimmed (codes "  a b  ") ≡ codes "a b"
example_trimmed = refl

example_blanks : trimmed (codes "   ") ≡ codes ""
example_blanks = refl

example_word : word_numbered 1 (codes "tell  bob hi") ≡ codes "bob"
example_word = refl

example_rest : rest_behind_word (codes "tell  bob hi") ≡ codes "bob hi"
example_rest = refl

example_no_word : word_numbered 3 (codes "tell  bob hi") ≡ codes ""
example_no_word = refl

-- some words, in their order
abbrev pub Words : Type 0
Words = List (List ℕ)

-- a part between two blanks, or at an end of a text, is a word unless nothing stands there
abbrev pub is_word : List ℕ → Bool
is_word [] = false
is_word (b ∷ part) = true

-- all the words of a text
unfoldable pub words_of : List ℕ → Words
words_of text = filter is_word (slice_split is_blank text)

example_words : words_of (codes "  bob  5 0 ") ≡ codes "bob" ∷ codes "5" ∷ codes "0" ∷ []
unfolding words_of
example_words = refl

example_no_words : words_of (codes "   ") ≡ []
unfolding words_of
example_no_words = refl
