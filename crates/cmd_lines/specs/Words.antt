-- The line of a refusal.
use Rattle.std.specs.Prelude.{ℕ, List, ◌++◌, codes}
use Rattle.fics_words.specs.Refusal.{refusal_words}
use Rattle.fics_words.specs.declared.refusal.Refusal.{Refusal}

-- the line of a refusal
abbrev pub refusal_text : Refusal → List ℕ
refusal_text cause = refusal_words cause ++ codes "\n"
