use Rattle.std.proofs.Common.{◌≡◌}
use Rattle.perft.proofs.+lists.Given as goal

abbrev pub decreases-lists : goal.decreases-lists
decreases-lists l = l.length

abbrev pub invariant-loop-m : goal.invariant-loop-m
invariant-loop-m l = l.position ≡ l.fn.position
