use Rattle.std.proofs.Common.{arith}
use Rattle.game_records.specs.Reading.{names_in}
use Rattle.game_records.proofs.NamesBack.{no_handle}
use Rattle.game_records.proofs.names.names_in.Goals as goal

pub returns-in_default-clause-none : goal.returns-in_default-clause-none
returns-in_default-clause-none c =
    no_handle c.loop-place.names (names_in c.args.count c.args.bytes.now) c.args.count c.loop-place._place
    c.loop-place.rest.now (omega arith)
    c.loop-place.invariant.same c.in_default.ensures.none
