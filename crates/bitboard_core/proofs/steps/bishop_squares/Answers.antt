use Rattle.bitboard_core.proofs.StepLemmas.{bishop_set}
use Rattle.bitboard_core.proofs.steps.bishop_squares.Goals as goal

pub returns : goal.returns
returns c P colour all =
    bishop_set P colour c.args.s c.args.occupied c.north_east.result c.north_west.result c.south_east.result
    c.south_west.result
    c.north_east.ensures.square all c.north_east.ensures c.north_west.ensures c.south_east.ensures c.south_west.ensures
