use Rattle.std.proofs.Common.{arith}
use Rattle.bitboard_core.proofs.StopLemmas.{up_stop-lt, up_stop_by_zeros}
use Rattle.bitboard_core.proofs.stops.up_to_stop.Goals as goal

pub returns : goal.returns
returns c = up_stop_by_zeros c.args.ray c.args.occupied c.ranges.ray.fits

pub overflow_sub-result : goal.overflow_sub-result
overflow_sub-result c = omega (arith, up_stop-lt c.args.ray c.args.occupied c.ranges.ray.fits)
