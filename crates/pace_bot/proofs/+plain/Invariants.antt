use Rattle.std.proofs.Common.{◌≡◌}
use Rattle.pace_bot.proofs.+plain.Given as goal

abbrev pub decreases-plain : goal.decreases-plain
decreases-plain l = l.depth

abbrev pub invariant-loop-m : goal.invariant-loop-m
invariant-loop-m l = l.position ≡ l.fn.position
