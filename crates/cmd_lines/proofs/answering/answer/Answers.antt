use Rattle.std.proofs.Common.{◌++◌, ℕ, List, false, subst}
use Rattle.cmd_lines.specs.Reading.{AfterSend, AfterSendLast}
use Rattle.cmd_lines.specs.declared.end.End.TheVariants.{BadLine}
use Rattle.cmd_lines.proofs.Sending.{fed-cleared, AfterAnswer-sent, AfterRefusal, FrontIsWritten-so_far}
use Rattle.cmd_lines.proofs.answering.answer.Goals as goal

pub returns-in-Ok-clause-answered : goal.returns-in-Ok-clause-answered
returns-in-Ok-clause-answered g c = λ start taken text written w p.
    let feeding = (g.F.Feeder.feeding start) in
    let now = g.K.Sink.written c.args.sink.now in
    let new = g.K.Sink.written c.send.new.sink in
    let before =
    fed-cleared feeding false taken c.args.feeder.now text c.clear.new.self.items c.clear.ensures.items p in
    let sent = subst (λ (l : List ℕ). AfterSend now new l c.send.result) c.as_slice.ensures.value c.send.ensures.sent in
    AfterAnswer-sent feeding (taken ++ c.args.piece.now) text written now new w c.feed.new.self c.feed.new.out.items
    c.send.result (c.in-Ok.ensures start taken text before) sent

pub returns-in-Err-BadLine-clause-answered : goal.returns-in-Err-BadLine-clause-answered
returns-in-Err-BadLine-clause-answered g c = λ start taken text written w p.
    let feeding = (g.F.Feeder.feeding start) in
    let now = g.K.Sink.written c.args.sink.now in
    let new = g.K.Sink.written c.send_last.new.sink in
    let before =
    fed-cleared feeding false taken c.args.feeder.now text c.clear.new.self.items c.clear.ensures.items p in
    let bad : feeding.refused false (taken ++ c.args.piece.now) (text ++ c.feed.new.out.items) =
    rw c.in-Err-BadLine.field-0-is at (c.in-Err-BadLine.ensures start taken text before) in
    let sent =
    subst (λ (l : List ℕ). AfterSendLast now new l BadLine c.send_last.result) c.as_slice-in-Err-BadLine.ensures.value
    c.send_last.ensures.sent in
    AfterRefusal feeding (taken ++ c.args.piece.now) text written now new w false c.feed.new.out.items
    c.send_last.result bad sent

pub returns-in-Err-Memory-clause-answered : goal.returns-in-Err-Memory-clause-answered
returns-in-Err-Memory-clause-answered g c = λ start taken text written w p.
    FrontIsWritten-so_far (g.F.Feeder.feeding start) false taken c.args.piece.now text c.args.feeder.now written
    (g.K.Sink.written c.args.sink.now) w p
