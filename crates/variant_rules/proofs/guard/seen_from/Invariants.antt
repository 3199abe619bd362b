use Rattle.std.proofs.Common.{ℕ, ◌-◌, ◌<◌}
use Rattle.chess_model.specs.declared.man.Kind.TheVariants.{Queen}
use Rattle.chess_model.specs.Reach.{Strikes}
use Rattle.bitboard_core.specs.Sets.{Has}
use Rattle.variant_rules.proofs.guard.seen_from.Given as goal

abbrev pub invariant-loop-s : goal.invariant-loop-s
invariant-loop-s l = record {
  each : (x t : ℕ) → x < l.s → t < 64 → Has l.squares x → Strikes l.fn.men l.fn.c Queen x t → Has l.set t;
}

abbrev pub decreases-loop-s : goal.decreases-loop-s
decreases-loop-s l = 64 - l.s
