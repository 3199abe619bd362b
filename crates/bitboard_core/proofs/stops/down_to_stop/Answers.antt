use Rattle.bitboard_core.proofs.StopLemmas.{down_stop-some, down_stop_by_top}
use Rattle.bitboard_core.proofs.stops.down_to_stop.Goals as goal

pub returns : goal.returns
returns c =
    let top = c.ilog2-stop.ensures in
    down_stop_by_top c.args.ray c.args.occupied c.ilog2-stop.result top.bound top.power_le top.next_power_gt

pub ilog2-stop-requires : goal.ilog2-stop-requires
ilog2-stop-requires c = down_stop-some c.args.ray c.args.occupied
