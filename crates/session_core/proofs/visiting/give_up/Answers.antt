use Rattle.std.proofs.Common.{refl, subst, true}
use Rattle.one_server.specs.Running.{ServerRan}
use Rattle.one_server.specs.declared.act.Act.{Act}
use Rattle.session_core.specs.Course.{act_at}
use Rattle.session_core.specs.Session.{clear_at, given_up}
use Rattle.session_core.proofs.Going.{broke_unasked, on_made}
use Rattle.session_core.proofs.Remembering.{remembers_silent}
use Rattle.session_core.proofs.visiting.give_up.Goals as goal

pub returns-in_err-_cleared-clause-broke : goal.returns-in_err-_cleared-clause-broke
returns-in_err-_cleared-clause-broke g c = λ rest memory.
    broke_unasked c.args.moment c.from_residual.result (given_up c.args.visit.now true rest)
    (g.R.Runner.state c.args.r.now) memory (g.R.Runner.state c.answered.new.r)
    c.in_err-_cleared.ensures.ran

pub returns-clause-went : goal.returns-clause-went
returns-clause-went g c = λ rest memory out inside.
    let old = g.R.Runner.state c.args.r.now in
    let new = g.R.Runner.state c.answered.new.r in
    let act = clear_at c.args.visit.now in
    let reply = c.in_ok-_cleared._cleared in
    on_made c.args.moment act (λ cleared. rest) reply old memory out new memory
    (subst (λ (a : Act). ServerRan old (act_at c.args.moment a) reply new) c.clear_at.ensures.value
    c.in_ok-_cleared.ensures.ran)
    (remembers_silent old.number c.args.moment act reply memory refl inside)
