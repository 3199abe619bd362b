use Rattle.std.proofs.Common.{ℕ, ◌<◌}
use Rattle.variant_rules.specs.States.{NoneFrom}
use Rattle.variant_rules.proofs.position.Position.can_leave_some.Given as goal

abbrev pub invariant-loop-a : goal.invariant-loop-a
invariant-loop-a l = (k : ℕ) → k < l.a → NoneFrom l.self k
