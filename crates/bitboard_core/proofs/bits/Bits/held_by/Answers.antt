use Rattle.bitboard_core.proofs.BitsLemmas.{men_of_colour}
use Rattle.bitboard_core.proofs.bits.Bits.held_by.Goals as goal

pub returns : goal.returns
returns c = men_of_colour c.args.self.now c.args.c c.side-side.result c.side-side.ensures
