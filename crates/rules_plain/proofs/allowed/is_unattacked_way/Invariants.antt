use Rattle.std.proofs.Common.{ℕ, ◌<◌}
use Rattle.chess_model.specs.Squares.{along}
use Rattle.chess_model.specs.Attacked.{IsAttacked}
use Rattle.rules_plain.proofs.allowed.is_unattacked_way.Given as goal

abbrev pub invariant-loop-k : goal.invariant-loop-k
invariant-loop-k l = (j : ℕ) → j < l.k → ¬ IsAttacked l.men l.by (along l.a l.b j)
