use Rattle.lobby_state.specs.Lobby.{LobbyState}
use Rattle.cmd_store.proofs.Loading.{loads_opened, loads_unopened}
use Rattle.cmd_examine.proofs.Ending.{not_opened, store_examined}
use Rattle.cmd_examine.proofs.examining.examine.Goals as goal

pub returns-in-Ok-clause-ends : goal.returns-in-Ok-clause-ends
returns-in-Ok-clause-ends g c =
    store_examined (g.P.Keeper.table c.args.keeper.now) c.args.game (g.S.Source.left c.args.source.now)
    (g.S.Source.left c.examine_opened.new.source) (g.K.Sink.written c.args.sink.now)
    (g.K.Sink.written c.open_store.new.sink) (g.K.Sink.written c.examine_opened.new.sink) c.in-Ok.ensures.tells
    c.in-Ok.lobby c.open_game-opened.result c.examine_opened.result
    c.ranges.game.fits c.open_game-opened.ensures.formed c.in-Ok.ensures.spelled c.in-Ok.ensures.loaded
    c.in-Ok.ensures.good c.open_game-opened.ensures.opened
    c.examine_opened.ensures.ends

pub returns-in-Err-clause-ends : goal.returns-in-Err-clause-ends
returns-in-Err-clause-ends g c =
    rw c.outcome_of.ensures
    (not_opened LobbyState (g.P.Keeper.table c.args.keeper.now) c.args.game (g.S.Source.left c.args.source.now)
    (g.K.Sink.written c.args.sink.now) (g.K.Sink.written c.open_store.new.sink) c.in-Err.fault
    c.in-Err.ensures.tells)

pub returns-in-Ok-clause-called : goal.returns-in-Ok-clause-called
returns-in-Ok-clause-called g c =
    loads_opened (g.P.Keeper.calls c.args.keeper.now) (g.P.Keeper.calls c.open_store.new.keeper) c.examine_opened.result
    c.examine_opened.ensures.calm c.in-Ok.ensures.called

pub returns-in-Err-clause-called : goal.returns-in-Err-clause-called
returns-in-Err-clause-called g c =
    rw c.outcome_of.ensures
    (loads_unopened (g.P.Keeper.calls c.args.keeper.now) (g.P.Keeper.calls c.open_store.new.keeper) c.in-Err.fault
    c.in-Err.ensures.called)
