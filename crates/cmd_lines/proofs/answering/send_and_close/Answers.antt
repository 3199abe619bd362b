use Rattle.std.proofs.Common.{◌++◌, ℕ, List, true, Err, subst}
use Rattle.std.specs.Io.KnownBytes.{Appends}
use Rattle.std.proofs.KnownBytes.{Appends-trans}
use Rattle.cmd_lines.specs.Reading.{AfterSend, AfterSendLast}
use Rattle.cmd_lines.specs.declared.end.End.TheVariants.{Done}
use Rattle.cmd_lines.proofs.Sending.{fed-cleared, AfterFinish-closed, AfterFinish-unclosed, AfterFinish-unsent}
use Rattle.cmd_lines.proofs.answering.send_and_close.Goals as goal

pub returns-in-Err-clause-finished : goal.returns-in-Err-clause-finished
returns-in-Err-clause-finished g c = λ start taken text written w p.
    let now = g.K.Sink.written c.args.sink.now in
    let new = g.K.Sink.written c.send.new.sink in
    let sent =
    subst (λ (l : List ℕ). AfterSend {A = Unit {0}} now new l (Err c.in-Err.fault)) c.as_slice.ensures.value
    c.in-Err.ensures.sent in
    AfterFinish-unsent (g.F.Feeder.feeding start) taken text written now new w (Unit {0}) c.args.feeder.now
    c.args.out.now.items c.in-Err.fault p sent

pub returns-in-Ok-clause-finished : goal.returns-in-Ok-clause-finished
returns-in-Ok-clause-finished g c = λ start taken text written w p.
    let feeding = (g.F.Feeder.feeding start) in
    let now = g.K.Sink.written c.args.sink.now in
    let mid = g.K.Sink.written c.send.new.sink in
    let new = g.K.Sink.written c.send_last.new.sink in
    let bytes = c.args.out.now.items in
    let first : Appends now mid bytes = subst (Appends now mid) c.as_slice.ensures.value c.in_default.ensures.sent in
    let all = Appends-trans written now mid text bytes w first in
    let before =
    fed-cleared feeding true taken c.args.feeder.now (text ++ bytes) c.clear.new.self.items c.clear.ensures.items p in
    let good = c.in-Ok.ensures start taken (text ++ bytes) before in
    let sent =
    subst (λ (l : List ℕ). AfterSendLast mid new l Done c.send_last.result) c.as_slice-in-Ok.ensures.value
    c.send_last.ensures.sent in
    AfterFinish-closed feeding taken (text ++ bytes) written mid new all c.close.new.self c.close.new.out.items
    c.send_last.result good sent

pub returns-in-Err-close-clause-finished : goal.returns-in-Err-close-clause-finished
returns-in-Err-close-clause-finished g c = λ start taken text written w p.
    let now = g.K.Sink.written c.args.sink.now in
    let mid = g.K.Sink.written c.send.new.sink in
    let bytes = c.args.out.now.items in
    let first : Appends now mid bytes = subst (Appends now mid) c.as_slice.ensures.value c.in_default.ensures.sent in
    AfterFinish-unclosed (g.F.Feeder.feeding start) taken text bytes c.args.feeder.now written now mid w first p
