use Rattle.std.proofs.Common.{subst, sym}
use Rattle.one_server.specs.declared.act.Timed.{Timed}
use Rattle.hall_core.specs.declared.ran.Ran.{Ran}
use Rattle.hall_core.specs.Acts.{ActCameTo, ran_of}
use Rattle.hall_core.specs.Passes.{PassState, pass_state}
use Rattle.hall_core.proofs.Running.{came}
use Rattle.hall_core.proofs.hall.Hall.try_run.Goals as goal

pub returns-clause-ok : goal.returns-clause-ok
returns-clause-ok c =
    let e = c.try_run.ensures in
    let w = c.try_run.new.pass in
    let timed : Timed = record { moment = c.args.moment; act = c.args.act } in
    subst (λ (r : Ran). ActCameTo c.args.pass.now timed r (pass_state w c.pass.inside.short)) (sym c.ran_of.ensures)
    (subst (λ (p : PassState).
    ActCameTo p timed (ran_of c.in_ok-tried.tried c.try_run.new.reply) (pass_state w c.pass.inside.short))
    c.pass.view_is
    (came c.pass.inside.pass w e.same c.pass.invariant.whole c.pass.inside.short timed c.in_ok-tried.tried
    c.try_run.new.reply c.in_ok-tried.ensures.ok))
