use Rattle.link_core.proofs.Ending.{serves_left, serves_short}
use Rattle.link_core.proofs.serving.serve_link.Goals as goal

pub returns-in-Ok-clause-served : goal.returns-in-Ok-clause-served
returns-in-Ok-clause-served g c =
    serves_left c.converse-end.ensures.stops c.moment_of.result
    (c.now.result, c.now.ensures, c.moment_of.ensures)
    (g.R.Runner.state c.leave-left.new.r) (g.L.Link.tale c.close.new.self) c.close.ensures.closed
    (g.L.Link.faults c.args.link.now) (g.L.Link.faults c.close.new.self)
    (rw c.close.ensures.faults c.converse-end.ensures.link.cause) c.in-Ok.ensures.left

pub returns-clause-served : goal.returns-clause-served
returns-clause-served g c =
    serves_short c.converse-end.ensures.stops c.moment_of.result
    (c.now.result, c.now.ensures, c.moment_of.ensures)
    (g.R.Runner.state c.leave-left.new.r) (g.L.Link.tale c.close.new.self) c.close.ensures.closed
    (g.L.Link.faults c.args.link.now) (g.L.Link.faults c.close.new.self)
    (rw c.close.ensures.faults c.converse-end.ensures.link.cause) c.in-Err.ensures.part
