use Rattle.std.proofs.Common.{sym, ◌∙◌}
use Rattle.std.specs.Prelude.{Ok, Err}
use Rattle.cmd_bot.specs.Game.{bot_position}
use Rattle.cmd_bot.proofs.Games.{no_word, stands_at, word_answered, word_over}
use Rattle.chess_model.proofs.StandsAfter.{answer_allowed}
use Rattle.cmd_bot.proofs.game.Game.named.Goals as goal

pub returns-in_default-clause-value : goal.returns-in_default-clause-value
returns-in_default-clause-value c =
    no_word c.args.self.now c.args.line.now (sym c.read_word.ensures.computed ∙ c.in_default.is)

pub returns-then-is_over-clause-value : goal.returns-then-is_over-clause-value
returns-then-is_over-clause-value c =
    word_over c.args.self.now c.args.line.now c.in-Some.word c.in-Some.ensures.computed
    (sym c.is_over.ensures ∙ c.if-is_over.true)

pub returns-in-Ok-clause-value : goal.returns-in-Ok-clause-value
returns-in-Ok-clause-value c =
    let inside = c.self.inside in
    word_answered inside.position c.args.self.now c.args.line.now c.in-Some.word (Ok c.in-Ok.m)
    c.in-Some.ensures.computed (sym c.is_over.ensures ∙ c.if-is_over.false) c.in-Ok.ensures.value
    (stands_at inside.position inside.moves c.args.self.now c.self.invariant.1 c.self.view_is)

pub returns-in-Ok-clause-allowed : goal.returns-in-Ok-clause-allowed
returns-in-Ok-clause-allowed c =
    let inside = c.self.inside in
    answer_allowed inside.position (bot_position c.args.self.now) c.in-Some.word c.in-Ok.m c.in-Ok.ensures.answered
    (stands_at inside.position inside.moves c.args.self.now c.self.invariant.1 c.self.view_is)

pub returns-in-Err-clause-value : goal.returns-in-Err-clause-value
returns-in-Err-clause-value c =
    let inside = c.self.inside in
    word_answered inside.position c.args.self.now c.args.line.now c.in-Some.word (Err c.in-Err.field-0)
    c.in-Some.ensures.computed (sym c.is_over.ensures ∙ c.if-is_over.false) c.in-Err.ensures.value
    (stands_at inside.position inside.moves c.args.self.now c.self.invariant.1 c.self.view_is)
