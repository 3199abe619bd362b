use Rattle.std.proofs.Common.{◌≡◌, ◌-◌, ◌≤◌, length}
use Rattle.memory_edges.specs.Wire.{taken_at, left_at}
use Rattle.memory_edges.proofs.steps.read_step.Given as goal

abbrev pub invariant-loop-n : goal.invariant-loop-n
invariant-loop-n l =
    (left_at l.steps l.at ≡ left_at l.steps l.fn.spot) × (taken_at l.steps l.at ≡ taken_at l.steps l.fn.spot)
    × (l.at.step ≤ length l.steps)

abbrev pub decreases-loop-n : goal.decreases-loop-n
decreases-loop-n l = length l.steps - l.at.step
