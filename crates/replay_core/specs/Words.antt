-- Words that single blanks part: this server's own grammar.
use Rattle.std.specs.Prelude.{◌≢◌, ℕ, List, [], ◌∷◌, ◌++◌}
use Rattle.std.specs.List.{AllByRecursion}
use Rattle.fics_words.specs.Blank.{blank}

-- no byte is a blank
abbrev pub IsWord : List ℕ → Type 0
IsWord bytes = AllByRecursion (λ byte. byte ≢ blank) bytes

-- the words, each with a blank behind it, and then the rest
abbrev pub words_before : List (List ℕ) → List ℕ → List ℕ
words_before [] rest = rest
words_before (word ∷ words) rest = word ++ blank ∷ words_before words rest
