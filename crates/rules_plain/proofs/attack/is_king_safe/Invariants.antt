use Rattle.std.proofs.Common.{ℕ, ◌<◌}
use Rattle.chess_model.specs.Attacked.{IsInCheckOn}
use Rattle.rules_plain.proofs.attack.is_king_safe.Given as goal

abbrev pub invariant-loop-s : goal.invariant-loop-s
invariant-loop-s l = (k : ℕ) → k < l.s → ¬ IsInCheckOn l.men l.c k
