use Rattle.std.proofs.Common.{ℕ, ◌<◌}
use Rattle.chess_model.specs.Squares.{along}
use Rattle.chess_model.specs.Allowed.{IsFreeFor}
use Rattle.rules_plain.proofs.allowed.is_free_way.Given as goal

abbrev pub invariant-loop-k : goal.invariant-loop-k
invariant-loop-k l = (j : ℕ) → j < l.k → IsFreeFor l.men l.king l.rook (along l.a l.b j)
