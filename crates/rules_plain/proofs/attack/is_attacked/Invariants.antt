use Rattle.std.proofs.Common.{ℕ, ◌<◌}
use Rattle.chess_model.specs.Attacked.{StrikesFrom}
use Rattle.rules_plain.proofs.attack.is_attacked.Given as goal

abbrev pub invariant-loop-a : goal.invariant-loop-a
invariant-loop-a l = (k : ℕ) → k < l.a → ¬ StrikesFrom l.men l.c k l.s
