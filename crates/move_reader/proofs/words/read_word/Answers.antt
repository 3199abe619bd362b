use Rattle.std.proofs.Common.{◌≡◌, List, ℕ, Some, None, sym, ◌∙◌}
use Rattle.std.specs.Prelude.{Option, IfSome, IfNone}
use Rattle.chess_model.specs.declared.moves.MoveWord.{MoveWord}
use Rattle.move_reader.specs.Spellings.{IsReading}
use Rattle.move_reader.specs.Reading.{reading}
use Rattle.move_reader.proofs.ByteMeanings.{not_some}
use Rattle.move_reader.proofs.Readings.{reading-sound, reading-again}
use Rattle.move_reader.proofs.words.read_word.Goals as goal

is_read : (text : List ℕ) (result : Option MoveWord) → result ≡ reading text
    → IfSome result (λ word. IsReading text word)
is_read text None e = tt
is_read text (Some word) e = reading-sound text word (sym e)

is_none : (text : List ℕ) (result : Option MoveWord) → result ≡ reading text
    → IfNone result ((word : MoveWord) → IsReading text word → ⊥)
is_none text None e = λ word is. not_some word (e ∙ reading-again text word is)
is_none text (Some word) e = tt

pub returns-clause-read : goal.returns-clause-read
returns-clause-read c = is_read _ c.read_first.result c.read_first.ensures

pub returns-clause-none : goal.returns-clause-none
returns-clause-none c = is_none _ c.read_first.result c.read_first.ensures
