use Rattle.bitboard_core.proofs.RayLemmas.{west_ray}
use Rattle.bitboard_core.proofs.rays.west.Goals as goal

pub returns : goal.returns
returns c =
    rw c.number.ensures.value at
    (west_ray c.number.result c.args.occupied c.down_to_stop.result c.number.ensures.within c.down_to_stop.ensures)
