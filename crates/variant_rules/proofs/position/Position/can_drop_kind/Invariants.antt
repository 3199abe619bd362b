use Rattle.std.proofs.Common.{ℕ, ◌<◌}
use Rattle.chess_model.specs.declared.moves.Move.TheVariants.{Drop}
use Rattle.chess_model.specs.Allowed.{Allowed}
use Rattle.variant_rules.proofs.position.Position.can_drop_kind.Given as goal

abbrev pub invariant-loop-to : goal.invariant-loop-to
invariant-loop-to l = (t : ℕ) → t < l.to → ¬ Allowed l.self (Drop l.k t)
