use Rattle.std.proofs.Common.{subst}
use Rattle.chess_model.specs.declared.man.Colour.{Colour}
use Rattle.bitboard_core.specs.Sets.{IsSetOf}
use Rattle.chess_model.specs.Men.{is_held_by}
use Rattle.bitboard_core.proofs.BitsLemmas.{reach_of_pawn}
use Rattle.bitboard_core.proofs.bits.Bits.pawn_reach.Goals as goal

pub returns : goal.returns
returns c =
    let P = c.args.self.now in
    let others =
    subst (λ (x : Colour). IsSetOf (is_held_by x) P c.held_by.result) c.opposite.ensures c.held_by.ensures in
    reach_of_pawn P c.args.c c.args.s c.pawn_pushes.result c.pawn_squares.result c.held_by.result
    (c.pawn_pushes.ensures P c.occupied.ensures) (c.pawn_squares.ensures P) others
