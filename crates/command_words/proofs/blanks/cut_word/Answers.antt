use Rattle.std.proofs.Common.{sym, ◌∙◌}
use Rattle.command_words.proofs.Parts.{none_is, cut_is}
use Rattle.command_words.proofs.blanks.cut_word.Goals as goal

pub returns-then-is_empty-clause-none : goal.returns-then-is_empty-clause-none
returns-then-is_empty-clause-none c =
    none_is c.args.text.now c.behind_blanks-text.result.now c.behind_blanks-text.ensures
    (sym c.is_empty.ensures ∙ c.if-is_empty.true)

pub returns-clause-word : goal.returns-clause-word
returns-clause-word c =
    cut_is c.args.text.now c.behind_blanks-text.result.now c.first_word.result.now c.rest_of.result.now
    c.behind_blanks-text.ensures
    (sym c.is_empty.ensures ∙ c.if-is_empty.false) c.first_word.ensures c.rest_of.ensures
