use Rattle.std.proofs.Common.{sym, ◌∙◌, refl}
use Rattle.cmd_tourney.proofs.LineAnswers.{answer_line-none, answer_line-some}
use Rattle.cmd_tourney.proofs.answering.answer_line.Goals as goal

pub returns-in_default : goal.returns-in_default
returns-in_default c =
    let e = answer_line-none c.args.tourney.now c.args.line.now (sym c.read_line.ensures ∙ c.in_default.is) in
    rw e (refl, refl)

pub returns : goal.returns
returns c =
    let e =
    answer_line-some c.args.tourney.now c.args.line.now c.in-Some.line (sym c.read_line.ensures ∙ c.in-Some.is) in
    let after = c.in_ok-do_line.ensures.after in
    let text = c.in_ok-do_line.ensures.text in
    rw e (refl, after, text)
