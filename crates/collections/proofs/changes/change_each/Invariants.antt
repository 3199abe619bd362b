use Rattle.std.proofs.Common.{◌≡◌}
use Rattle.collections.proofs.EachStep.{changed_below}
use Rattle.collections.proofs.changes.change_each.Given as goal

abbrev pub invariant-loop-item : goal.invariant-loop-item
invariant-loop-item g l =
    l.items ≡ changed_below (g.C.Change.changed l.change) l.initial.items l.item-index
