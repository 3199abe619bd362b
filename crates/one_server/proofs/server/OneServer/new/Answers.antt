use Rattle.one_server.proofs.Serving.{fresh}
use Rattle.one_server.proofs.server.OneServer.new.Goals as goal

pub invariant_of-result : goal.invariant_of-result
invariant_of-result c =
    fresh c.of.result.value c.args.lobby c.in-Ok.desks c.new.result.items c.lobbies_are_well_formed.ensures c.requires
    c.of.ensures c.in-Ok.ensures c.new.ensures.items
