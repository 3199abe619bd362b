use Rattle.bitboard_core.proofs.BitsLemmas.{reach_of_struck}
use Rattle.bitboard_core.proofs.bits.Bits.without_own.Goals as goal

pub returns : goal.returns
returns c k s other hit =
    reach_of_struck c.args.self.now c.args.c k s c.args.struck c.held_by.result other c.held_by.type_inv
    c.held_by.ensures hit
