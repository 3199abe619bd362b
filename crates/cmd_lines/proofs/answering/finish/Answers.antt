use Rattle.std.proofs.Common.{◌++◌, ℕ, List, false, true, subst}
use Rattle.cmd_lines.specs.Reading.{AfterSendLast}
use Rattle.cmd_lines.specs.declared.end.End.TheVariants.{BadLine}
use Rattle.cmd_lines.proofs.Sending.{fed-cleared, AfterFinish-refused, AfterRefusal, FrontIsWritten-waiting}
use Rattle.cmd_lines.proofs.answering.finish.Goals as goal

pub returns-in-Ok-clause-finished : goal.returns-in-Ok-clause-finished
returns-in-Ok-clause-finished g c = λ start taken text written w p.
    let before =
    fed-cleared (g.F.Feeder.feeding start) false taken c.args.feeder.now text c.clear.new.self.items
    c.clear.ensures.items p in
    c.send_and_close.ensures.finished start taken text written w (c.in-Ok.ensures start taken text before)

pub returns-in-Err-BadLine-clause-finished : goal.returns-in-Err-BadLine-clause-finished
returns-in-Err-BadLine-clause-finished g c = λ start taken text written w p.
    let feeding = (g.F.Feeder.feeding start) in
    let now = g.K.Sink.written c.args.sink.now in
    let new = g.K.Sink.written c.send_last.new.sink in
    let before =
    fed-cleared feeding false taken c.args.feeder.now text c.clear.new.self.items c.clear.ensures.items p in
    let bad : feeding.refused true taken (text ++ c.finish.new.out.items) =
    rw c.in-Err-BadLine.field-0-is at (c.in-Err-BadLine.ensures start taken text before) in
    let sent =
    subst (λ (l : List ℕ). AfterSendLast now new l BadLine c.send_last.result) c.as_slice.ensures.value
    c.send_last.ensures.sent in
    AfterFinish-refused feeding taken text written now new w c.send_last.result
    (AfterRefusal feeding taken text written now new w true c.finish.new.out.items c.send_last.result bad sent)

pub returns-in-Err-Memory-clause-finished : goal.returns-in-Err-Memory-clause-finished
returns-in-Err-Memory-clause-finished g c = λ start taken text written w p.
    FrontIsWritten-waiting (g.F.Feeder.feeding start) taken text c.args.feeder.now written
    (g.K.Sink.written c.args.sink.now) w p
