use Rattle.session_core.specs.Stages.{leaves, leaving_of}
use Rattle.session_core.proofs.Passing.{passed_to}
use Rattle.session_core.proofs.leaving.ask_or_pass.Goals as goal

pub returns-in-Err-clause-passed : goal.returns-in-Err-clause-passed
returns-in-Err-clause-passed g c =
    passed_to c.args.moment c.args.act (leaves c.args.stage c.args.memory.now) c.nothing_told.result
    (leaving_of c.next-in-Err.result c.next-in-Err.new.memory)
    (g.R.Runner.state c.args.r.now) (g.R.Runner.state c.answered.new.r)
    (λ e needs. let bad = c.in-Err.ensures.marked e needs in absurd cc) c.in-Err.ensures.ran c.nothing_told.ensures
    c.next-in-Err.ensures.goes
