use Rattle.game_records.proofs.HalvesBack.{squares_so_far}
use Rattle.game_records.proofs.halves.halves_in.Goals as goal

pub returns-clause-squares : goal.returns-clause-squares
returns-clause-squares c =
    squares_so_far c.args.variant c.args.count c.args.bytes.now c.loop-place.halves _ c.loop-place.invariant
