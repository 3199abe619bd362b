use Rattle.std.proofs.Common.{◌≡◌}
use Rattle.test_rules.proofs.counted.+lists_by_moves.Given as goal

abbrev pub decreases-lists_by_moves : goal.decreases-lists_by_moves
decreases-lists_by_moves l = l.length

abbrev pub invariant-loop-m : goal.invariant-loop-m
invariant-loop-m l = l.position ≡ l.fn.position
