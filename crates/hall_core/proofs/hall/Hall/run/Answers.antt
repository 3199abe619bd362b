use Rattle.std.proofs.Common.{subst}
use Rattle.one_server.specs.declared.act.Timed.{Timed}
use Rattle.one_server.specs.Running.{Runs, in_its_place}
use Rattle.hall_core.specs.Passes.{PassState, pass_state, runs_of}
use Rattle.hall_core.proofs.Running.{runs}
use Rattle.hall_core.proofs.hall.Hall.run.Goals as goal

pub returns-clause-ran : goal.returns-clause-ran
returns-clause-ran g c =
    let e = c.run.ensures in
    let w = c.run.new.pass in
    let timed : Timed = record { moment = c.args.moment; act = c.args.act } in
    subst (λ (p : PassState).
    Runs (runs_of p) timed (in_its_place c.run.result c.run.new.reply) (runs_of (pass_state w c.pass.inside.short)))
    c.pass.view_is
    (runs c.pass.inside.pass w e.same c.pass.invariant.whole timed c.run.result c.run.new.reply e.ok e.err)
