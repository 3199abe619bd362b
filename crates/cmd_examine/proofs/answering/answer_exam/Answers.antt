use Rattle.cmd_examine.proofs.Ending.{not_shown, shown_answered}
use Rattle.cmd_examine.proofs.answering.answer_exam.Goals as goal

pub returns-in-Err-clause-ends : goal.returns-in-Err-clause-ends
returns-in-Err-clause-ends g c =
    not_shown (Unit {0}) c.args.exam (g.S.Source.left c.args.source.now) (g.K.Sink.written c.args.sink.now)
    (g.K.Sink.written c.show.new.sink) c.in-Err.end c.in-Err.ensures.sent

pub returns-clause-ends : goal.returns-clause-ends
returns-clause-ends g c =
    shown_answered c.args.exam (g.S.Source.left c.args.source.now) (g.S.Source.left c.answer_from.new.source)
    (g.K.Sink.written c.args.sink.now) (g.K.Sink.written c.show.new.sink)
    (g.K.Sink.written c.answer_from.new.sink) c.answer_from.result c.in_default.ensures.sent c.answer_from.ensures.ends
