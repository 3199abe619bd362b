use Rattle.bitboard_core.proofs.SafetyLemmas.{struck-is}
use Rattle.bitboard_core.proofs.sides.is_struck.Goals as goal

pub returns : goal.returns
returns c P men all =
    struck-is P c.args.by c.args.s c.strikers.result c.strikers.type_inv (c.strikers.ensures P men all)
