use Rattle.std.proofs.Common.{ℕ, ◌<◌}
use Rattle.rules_answers.specs.NamedWords.{IsExposedFrom}
use Rattle.rules_answers.proofs.named.has_exposed.Given as goal

abbrev pub invariant-loop-a : goal.invariant-loop-a
invariant-loop-a g l = (k : ℕ) → k < l.a → ¬ IsExposedFrom (g.B.AskedBoard.position l.board) l.w k
