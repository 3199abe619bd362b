use Rattle.std.proofs.Common.{◌≡◌, ◌+◌, ◌≤◌, ◌++◌, length}
use Rattle.std.specs.List.{filter}
use Rattle.lobby_shelf.proofs.cells.Cells.retain.Given as goal

abbrev pub invariant-loop-item : goal.invariant-loop-item
invariant-loop-item g l = record {
  kept : l.self-inside.items ++ filter (g.P.Predicate.passes l.test) l.rest
      ≡ filter (g.P.Predicate.passes l.test) l.fn.self;
  few : length l.self-inside.items + length l.rest ≤ l.count;
}

abbrev pub decreases-loop-item : goal.decreases-loop-item
decreases-loop-item g l = length l.rest
