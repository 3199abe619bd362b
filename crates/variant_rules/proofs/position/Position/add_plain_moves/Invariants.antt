use Rattle.std.proofs.Common.{◌≡◌, ◌++◌, ◌-◌, ◌<◌, ◌≤◌}
use Rattle.bitboard_core.specs.Sets.{Has}
use Rattle.variant_rules.specs.Listing.{plain_moves_below}
use Rattle.variant_rules.proofs.position.Position.add_plain_moves.Given as goal

abbrev pub invariant-loop-a : goal.invariant-loop-a
invariant-loop-a l = record {
  done : l.out.items ≡ l.initial.out.items ++ plain_moves_below l.self l.a;
  here : l.a < 64 → Has l.own l.a;
  within : l.a ≤ 64;
}

abbrev pub decreases-loop-a : goal.decreases-loop-a
decreases-loop-a l = 64 - l.a
