use Rattle.std.proofs.Common.{◌-◌, ◌<◌, ◌≤◌}
use Rattle.bitboard_core.specs.Sets.{Has}
use Rattle.variant_rules.proofs.StateLemmas.{NoneBelow}
use Rattle.variant_rules.proofs.position.Position.can_leave_as.Given as goal

abbrev pub invariant-loop-b : goal.invariant-loop-b
invariant-loop-b l = record {
  none : NoneBelow l.self l.a l.b;
  here : l.b < 64 → Has l.goals l.b;
  within : l.b ≤ 64;
}

abbrev pub decreases-loop-b : goal.decreases-loop-b
decreases-loop-b l = 64 - l.b
