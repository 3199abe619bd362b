use Rattle.std.proofs.Common.{ℕ, ◌<◌}
use Rattle.rules_answers.specs.NamedWords.{IsOrigin}
use Rattle.rules_answers.proofs.named.has_origin.Given as goal

abbrev pub invariant-loop-a : goal.invariant-loop-a
invariant-loop-a g l = (k : ℕ) → k < l.a → ¬ IsOrigin (g.B.AskedBoard.position l.board) l.w k
