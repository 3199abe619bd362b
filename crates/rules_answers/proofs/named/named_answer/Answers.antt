use Rattle.std.proofs.Common.{arith, ◌+◌}
use Rattle.rules_answers.proofs.NamedAnswers.{named_accepted, named_ambiguous}
use Rattle.rules_answers.proofs.named.named_answer.Goals as goal

pub returns-in-Some-first_choice-clause-refused : goal.returns-in-Some-first_choice-clause-refused
returns-in-Some-first_choice-clause-refused g c =
    named_ambiguous (g.B.AskedBoard.position c.args.board.now) c.args.w.now c.in-Some.a c.in-Some-first_choice._second
    (omega (arith, c.number.ensures.value, c.in-Some-first_choice.ensures.found.0))
    c.in-Some.ensures.found.1 c.in-Some-first_choice.ensures.found.1

pub returns-in-None-first_choice-clause-answered : goal.returns-in-None-first_choice-clause-answered
returns-in-None-first_choice-clause-answered g c =
    rw c.move_from.ensures
    (named_accepted (g.B.AskedBoard.position c.args.board.now) c.args.w.now c.in-Some.a (c.number.result + 1)
    (omega (arith, c.number.ensures.value)) c.in-Some.ensures.found.1 c.in-Some.ensures.first
    c.in-None-first_choice.ensures.none)
