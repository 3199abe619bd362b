use Rattle.std.proofs.Common.{arith}
use Rattle.hall_core.proofs.Opening.{whole_parts, opens_hall}
use Rattle.hall_core.proofs.hall.Hall.open.Goals as goal

pub new-requires-clause-some : goal.new-requires-clause-some
new-requires-clause-some c = omega (arith, c.in_ok-parts.ensures.count)

pub new-requires-clause-few : goal.new-requires-clause-few
new-requires-clause-few c = omega (arith, c.in_ok-parts.ensures.count)

pub new-requires-clause-whole : goal.new-requires-clause-whole
new-requires-clause-whole c κs =
    whole_parts c.args.lobby c.in_ok-parts.parts.items c.lobbies_are_well_formed.ensures c.requires
    c.in_ok-parts.ensures.items

pub invariant_of-result-2 : goal.invariant_of-result-2
invariant_of-result-2 c =
    opens_hall c.args.lobby c.in_ok-parts.parts.items c.in_ok-turns.pass c.lobbies_are_well_formed.ensures c.requires
    c.in_ok-parts.ensures.items c.in_ok-turns.ensures.opens
