use Rattle.std.proofs.Common.{◌≡◌, ◌++◌, ◌-◌, ◌<◌, ◌≤◌}
use Rattle.bitboard_core.specs.Sets.{Has}
use Rattle.variant_rules.specs.Listing.{drops_below}
use Rattle.variant_rules.proofs.position.Position.add_drops_of.Given as goal

abbrev pub invariant-loop-t : goal.invariant-loop-t
invariant-loop-t l = record {
  done : l.out.items ≡ l.initial.out.items ++ drops_below l.self l.k l.t;
  here : l.t < 64 → Has l.free l.t;
  within : l.t ≤ 64;
}

abbrev pub decreases-loop-t : goal.decreases-loop-t
decreases-loop-t l = 64 - l.t
