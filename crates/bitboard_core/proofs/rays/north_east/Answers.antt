use Rattle.bitboard_core.proofs.RayLemmas.{north_east_ray}
use Rattle.bitboard_core.proofs.rays.north_east.Goals as goal

pub returns : goal.returns
returns c =
    rw c.number.ensures.value at
    (north_east_ray c.number.result c.args.occupied c.up_to_stop.result c.number.ensures.within c.up_to_stop.ensures)
