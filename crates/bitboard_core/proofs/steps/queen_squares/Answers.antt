use Rattle.bitboard_core.proofs.StepLemmas.{queen_set}
use Rattle.bitboard_core.proofs.steps.queen_squares.Goals as goal

pub returns : goal.returns
returns c P colour all =
    queen_set P colour c.args.s c.bishop_squares.result c.rook_squares.result
    (c.bishop_squares.ensures P colour all) (c.rook_squares.ensures P colour all)
