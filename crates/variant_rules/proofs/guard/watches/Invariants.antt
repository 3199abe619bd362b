use Rattle.std.proofs.Common.{◌≡◌, ℕ, ◌-◌, ◌<◌, true, false, Option}
use Rattle.chess_model.specs.declared.man.Man.{Man}
use Rattle.chess_model.specs.Placement.{opposite, IsHeldBy}
use Rattle.chess_model.specs.Attacked.{IsAttacked}
use Rattle.bitboard_core.specs.Sets.{Has}
use Rattle.variant_rules.specs.Checks.{ArePinned, IsUnanswered, IsKingAttacked}
use Rattle.variant_rules.proofs.guard.watches.Given as goal

abbrev pub invariant-loop-s : goal.invariant-loop-s
invariant-loop-s l = record {
  kings : (t : ℕ) → Has l.kings t → Has l.guard.from t;
  pinned : (s : ℕ) → s < l.s → Has l.kings s → ArePinned l.fn.men l.fn.c s l.guard.from;
  answers : (b : ℕ) (man : Option Man) → b < 64 → ¬ Has l.guard.answers b → IsHeldBy l.fn.c man
      → (s : ℕ) × IsUnanswered l.fn.men l.fn.c b man s;
  safe : l.guard.in_check ≡ false → (s : ℕ) → s < l.s → Has l.kings s → ¬ IsAttacked l.fn.men (opposite l.fn.c) s;
  check : l.guard.in_check ≡ true → (s : ℕ) × IsKingAttacked l.fn.men l.fn.c s;
  here : l.s < 64 → Has l.kings l.s;
}

abbrev pub decreases-loop-s : goal.decreases-loop-s
decreases-loop-s l = 64 - l.s
