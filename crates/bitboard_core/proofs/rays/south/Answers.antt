use Rattle.bitboard_core.proofs.RayLemmas.{south_ray}
use Rattle.bitboard_core.proofs.rays.south.Goals as goal

pub returns : goal.returns
returns c =
    rw c.number.ensures.value at
    (south_ray c.number.result c.args.occupied c.down_to_stop.result c.number.ensures.within c.down_to_stop.ensures)
