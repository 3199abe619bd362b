use Rattle.cmd_store.proofs.Loading.{loads_opened, loads_unopened}
use Rattle.cmd_pgn.proofs.Ending.{store_exported}
use Rattle.cmd_pgn.proofs.exporting.pgn.Goals as goal

pub returns-in-Ok-clause-ends : goal.returns-in-Ok-clause-ends
returns-in-Ok-clause-ends g c =
    store_exported (g.P.Keeper.table c.args.keeper.now) (g.K.Sink.written c.args.sink.now)
    (g.K.Sink.written c.open_store.new.sink) (g.K.Sink.written c.write_shelf.new.sink)
    c.in-Ok.lobby c.write_shelf.result c.write_shelf.ensures.well_formed c.in-Ok.ensures.spelled c.in-Ok.ensures.loaded
    c.in-Ok.ensures.good c.in-Ok.ensures.tells
    c.write_shelf.ensures.writes

pub returns-in-Ok-clause-called : goal.returns-in-Ok-clause-called
returns-in-Ok-clause-called g c =
    loads_opened (g.P.Keeper.calls c.args.keeper.now) (g.P.Keeper.calls c.open_store.new.keeper) c.write_shelf.result
    c.write_shelf.ensures.calm c.in-Ok.ensures.called

pub returns-in-Err-clause-called : goal.returns-in-Err-clause-called
returns-in-Err-clause-called g c =
    rw c.outcome_of.ensures
    (loads_unopened (g.P.Keeper.calls c.args.keeper.now) (g.P.Keeper.calls c.open_store.new.keeper) c.in-Err.fault
    c.in-Err.ensures.called)
