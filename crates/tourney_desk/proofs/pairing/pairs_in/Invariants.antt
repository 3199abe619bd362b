use Rattle.std.proofs.Common.{◌≡◌}
use Rattle.std.specs.List.{flat_map, range_with_len}
use Rattle.tourney_desk.specs.Pairing.{pairs_of}
use Rattle.tourney_desk.proofs.pairing.pairs_in.Given as goal

abbrev pub invariant-loop-player : goal.invariant-loop-player
invariant-loop-player l = l.pairs.items ≡ flat_map (pairs_of l.players l.round) (range_with_len 0 l.player)
