use Rattle.edge_traits.specs.declared.keeper.Kept.TheVariants.{Done}
use Rattle.lobby_load.proofs.Answering.{good_told, loaded_told, made_at, sized_told}
use Rattle.lobby_load.proofs.loading.load.Goals as goal

pub returns-in-Ok-clause-loaded : goal.returns-in-Ok-clause-loaded
returns-in-Ok-clause-loaded g c =
    loaded_told (g.P.Keeper.table c.args.keeper.now) c.in-Ok.pairs.items c.lobby_of.result c.in-Ok.ensures.all
    c.lobby_of.ensures.made

pub returns-in-Ok-clause-sized : goal.returns-in-Ok-clause-sized
returns-in-Ok-clause-sized g c =
    sized_told (g.P.Keeper.table c.args.keeper.now) c.in-Ok.pairs.items c.lobby_of.result c.in-Ok.ensures.all
    c.lobby_of.ensures.made

pub returns-in-Ok-clause-good : goal.returns-in-Ok-clause-good
returns-in-Ok-clause-good g c =
    good_told (g.P.Keeper.table c.args.keeper.now) c.in-Ok.pairs.items c.lobby_of.result c.in-Ok.ensures.ascending
    c.in-Ok.ensures.all
    c.lobby_of.ensures.made

pub returns-in-Ok-clause-called : goal.returns-in-Ok-clause-called
returns-in-Ok-clause-called g c = (Done, c.in-Ok.ensures.noted, made_at _ c.lobby_of.result c.lobby_of.ensures.no_fault)
