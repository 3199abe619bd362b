use Rattle.std.proofs.Common.{ℕ, ◌<◌, ◌≤◌}
use Rattle.rules_answers.specs.NamedWords.{IsChoiceFrom}
use Rattle.rules_answers.proofs.named.first_choice.Given as goal

abbrev pub invariant-loop-a : goal.invariant-loop-a
invariant-loop-a g l = (k : ℕ) → l.n ≤ k → k < l.a → ¬ IsChoiceFrom (g.B.AskedBoard.position l.board) l.w k
