use Rattle.std.proofs.Common.{◌≡◌, length}
use Rattle.std.specs.List.{list_any}
use Rattle.lobby_shelf.proofs.cells.Cells.any.Given as goal

abbrev pub invariant-loop-item : goal.invariant-loop-item
invariant-loop-item g l = list_any (g.P.Predicate.passes l.test) l.rest ≡ list_any (g.P.Predicate.passes l.test) l.self

abbrev pub decreases-loop-item : goal.decreases-loop-item
decreases-loop-item g l = length l.rest
