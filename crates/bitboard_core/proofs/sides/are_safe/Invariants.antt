use Rattle.std.proofs.Common.{◌-◌, ◌<◌}
use Rattle.bitboard_core.specs.Sets.{Has}
use Rattle.bitboard_core.proofs.SafetyLemmas.{AreCheckedBelow}
use Rattle.bitboard_core.proofs.sides.are_safe.Given as goal

abbrev pub invariant-loop-s : goal.invariant-loop-s
invariant-loop-s l = record {
  checked : AreCheckedBelow l.side l.by l.occupied l.kings l.s;
  found : l.s < 64 → Has l.kings l.s;
}

abbrev pub decreases-loop-s : goal.decreases-loop-s
decreases-loop-s l = 64 - l.s
