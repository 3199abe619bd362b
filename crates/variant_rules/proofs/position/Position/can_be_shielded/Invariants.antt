use Rattle.std.proofs.Common.{ℕ, ◌<◌}
use Rattle.chess_model.specs.Result.{Shields}
use Rattle.variant_rules.proofs.position.Position.can_be_shielded.Given as goal

abbrev pub invariant-loop-s : goal.invariant-loop-s
invariant-loop-s l = (t : ℕ) → t < l.s → ¬ Shields l.self t
