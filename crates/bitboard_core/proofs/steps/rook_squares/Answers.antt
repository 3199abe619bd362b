use Rattle.bitboard_core.proofs.StepLemmas.{rook_set}
use Rattle.bitboard_core.proofs.steps.rook_squares.Goals as goal

pub returns : goal.returns
returns c P colour all =
    rook_set P colour c.args.s c.args.occupied c.north.result c.east.result c.south.result c.west.result
    c.north.ensures.square all c.north.ensures c.east.ensures c.south.ensures c.west.ensures
