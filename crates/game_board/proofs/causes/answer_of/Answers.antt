use Rattle.std.proofs.Common.{ap, ◌∙◌, Err}
use Rattle.game_board.specs.Causes.{in_words}
use Rattle.game_board.proofs.causes.answer_of.Goals as goal

pub returns-in-Ok-clause-answer : goal.returns-in-Ok-clause-answer
returns-in-Ok-clause-answer c = ap in_words c.in-Ok.ensures.value

pub returns-in-Err-clause-answer : goal.returns-in-Err-clause-answer
returns-in-Err-clause-answer c = ap Err c.refusal_of.ensures ∙ ap in_words c.in-Err.ensures.value

pub returns-in-Ok-clause-allowed : goal.returns-in-Ok-clause-allowed
returns-in-Ok-clause-allowed c = c.in-Ok.ensures.answered.choice.allowed
