use Rattle.bitboard_core.proofs.RayLemmas.{east_ray}
use Rattle.bitboard_core.proofs.rays.east.Goals as goal

pub returns : goal.returns
returns c =
    rw c.number.ensures.value at
    (east_ray c.number.result c.args.occupied c.up_to_stop.result c.number.ensures.within c.up_to_stop.ensures)
