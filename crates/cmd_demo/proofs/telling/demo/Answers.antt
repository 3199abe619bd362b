use Rattle.std.proofs.Common.{sym, subst}
use Rattle.cmd_demo.specs.DemoEnds.{IsSummary}
use Rattle.cmd_demo.proofs.Told.{not_sent}
use Rattle.cmd_demo.proofs.telling.demo.Goals as goal

pub returns-clause-ends : goal.returns-clause-ends
returns-clause-ends g c =
    not_sent (Unit {0}) c.args.number _ _ c.as_slice.result.now c.in-Err.end
    (subst (IsSummary c.args.number) (sym c.as_slice.ensures.value) c.in-Ok.ensures) c.in-Err.ensures.sent
