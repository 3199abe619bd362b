use Rattle.std.proofs.Common.{◌≡◌, ◌++◌, ◌-◌, ◌<◌, ◌≤◌}
use Rattle.bitboard_core.specs.Sets.{Has}
use Rattle.variant_rules.specs.Listing.{moves_from_below}
use Rattle.variant_rules.proofs.position.Position.add_moves_of.Given as goal

abbrev pub invariant-loop-b : goal.invariant-loop-b
invariant-loop-b l = record {
  done : l.out.items ≡ l.initial.out.items ++ moves_from_below l.self l.a l.b;
  here : l.b < 64 → Has l.goals l.b;
  within : l.b ≤ 64;
}

abbrev pub decreases-loop-b : goal.decreases-loop-b
decreases-loop-b l = 64 - l.b
