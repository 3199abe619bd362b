use Rattle.std.proofs.Common.{◌≡◌, ℕ, ◌<◌, None}
use Rattle.chess_model.specs.Squares.{along}
use Rattle.chess_model.specs.Placement.{man_at}
use Rattle.rules_plain.proofs.reach.is_clear.Given as goal

abbrev pub invariant-loop-k : goal.invariant-loop-k
invariant-loop-k l = (j : ℕ) → 0 < j → j < l.k → man_at l.men (along l.a l.b j) ≡ None
