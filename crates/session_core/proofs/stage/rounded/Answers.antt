use Rattle.std.proofs.Common.{subst}
use Rattle.session_core.specs.Course.{Writes}
use Rattle.session_core.specs.Memory.{MemoryState}
use Rattle.session_core.specs.Session.{rounding}
use Rattle.session_core.specs.Stages.{Settles}
use Rattle.session_core.specs.Texts.{waiting_text}
use Rattle.session_core.proofs.VisitSteps.{settles_rounding}
use Rattle.session_core.proofs.stage.rounded.Goals as goal

pub returns-clause-settles : goal.returns-clause-settles
returns-clause-settles c =
    let put = waiting_text c.args.reply.now in
    let out = c.args.out.now.items in
    subst
    (λ (m : MemoryState). Settles (Writes put (rounding m)) (rounding c.note.new.self) out c.put_waiting.new.out.items)
    c.note.ensures.told
    (settles_rounding put out c.put_waiting.new.out.items c.note.new.self c.in_ok-put_waiting.ensures)
