use Rattle.std.proofs.Common.{inl, inr, ap}
use Rattle.edge_traits.specs.Calls.{store_of}
use Rattle.serve_call.specs.Opening.{StaysUnopened}
use Rattle.serve_core.specs.Outside.{sheet_of}
use Rattle.serve_call.proofs.Opening.{Opens, ends_on, has_served, leaves_agreed, load_done, some_as}
use Rattle.serve_call.proofs.Unopened.{none_as, none_opened, unopened_by}
use Rattle.serve_call.proofs.serve_call.serve_players.Given as given
use Rattle.serve_call.proofs.serve_call.serve_players.Goals as goal
use Rattle.serve_call.proofs.serve_call.serve_players.Goals.{In-Ok, In-Err}

opened : (g : given.Over) (c : In-Ok g)
    → Opens c.in-Ok.lobby (store_of g.P.Keeper.table g.P.Keeper.faults g.P.Keeper.calls c.args.keeper.now)
    (store_of g.P.Keeper.table g.P.Keeper.faults g.P.Keeper.calls c.open_store.new.keeper)
    (sheet_of g.K.Sink.written g.K.Sink.faults c.args.sink.now)
    (sheet_of g.K.Sink.written g.K.Sink.faults c.open_store.new.sink)
opened g c = record {
  loads = record {
    opening = c.in-Ok.ensures.opening;
    spelled = c.in-Ok.ensures.spelled;
    holds = c.in-Ok.ensures.loaded;
    good = c.in-Ok.ensures.good;
    stays = c.open_store.ensures.unchanged;
    counted = c.open_store.ensures.keeper_counted;
    called =
        load_done (g.P.Keeper.calls c.args.keeper.now) (g.P.Keeper.calls c.open_store.new.keeper)
        c.in-Ok.ensures.called;
  };
  silent = c.in-Ok.ensures.tells;
  calm = c.in-Ok.ensures.write_calm;
}

not_opened : (g : given.Over) (c : In-Err g)
    → StaysUnopened c.in-Err.fault
    (store_of g.P.Keeper.table g.P.Keeper.faults g.P.Keeper.calls c.args.keeper.now)
    (store_of g.P.Keeper.table g.P.Keeper.faults g.P.Keeper.calls c.open_store.new.keeper)
    (sheet_of g.K.Sink.written g.K.Sink.faults c.args.sink.now)
    (sheet_of g.K.Sink.written g.K.Sink.faults c.open_store.new.sink)
not_opened g c =
    let it = c.in-Err.ensures in
    unopened_by c.in-Err.fault (store_of g.P.Keeper.table g.P.Keeper.faults g.P.Keeper.calls c.args.keeper.now)
    (store_of g.P.Keeper.table g.P.Keeper.faults g.P.Keeper.calls c.open_store.new.keeper)
    (sheet_of g.K.Sink.written g.K.Sink.faults c.args.sink.now)
    (sheet_of g.K.Sink.written g.K.Sink.faults c.open_store.new.sink) it.tells it.keeper_cause it.write_cause
    it.write_calm c.open_store.ensures.unchanged it.called

pub returns-in-Ok-clause-served : goal.returns-in-Ok-clause-served
returns-in-Ok-clause-served g c =
    some_as c.serve_lobby-end.result.1 _ _ c.serve_lobby-end.ensures.served
    (λ h p. has_served (opened g (goal.at.returns-in-Ok-clause-served g c).In-Ok) c.status.ensures p)

pub returns-in-Ok-clause-table : goal.returns-in-Ok-clause-table
returns-in-Ok-clause-table g c =
    some_as c.serve_lobby-end.result.1 _ _ c.serve_lobby-end.ensures.served
    (λ h p. leaves_agreed (opened g (goal.at.returns-in-Ok-clause-table g c).In-Ok) p)

pub returns-in-Ok-clause-no_hall : goal.returns-in-Ok-clause-no_hall
returns-in-Ok-clause-no_hall g c =
    none_opened c.serve_lobby-end.result.1 (opened g (goal.at.returns-in-Ok-clause-no_hall g c).In-Ok)
    c.status.ensures c.serve_lobby-end.ensures.ends c.serve_lobby-end.ensures.no_hall
    (none_as c.serve_lobby-end.result.1
    (λ same. ap (store_of g.P.Keeper.table g.P.Keeper.faults g.P.Keeper.calls) same)
    c.serve_lobby-end.ensures.keeper_stays)

pub returns-in-Ok-clause-ends : goal.returns-in-Ok-clause-ends
returns-in-Ok-clause-ends g c =
    inr (
      c.serve_lobby-end.result.0,
      c.status.ensures,
      ends_on (opened g (goal.at.returns-in-Ok-clause-ends g c).In-Ok) c.serve_lobby-end.ensures.ends,
    )

pub returns-in-Ok-clause-text_part : goal.returns-in-Ok-clause-text_part
returns-in-Ok-clause-text_part g c =
    some_as c.serve_lobby-end.result.1 _ _ c.serve_lobby-end.ensures.served
    (λ h p.
    (ends_on (opened g (goal.at.returns-in-Ok-clause-text_part g c).In-Ok) c.serve_lobby-end.ensures.ends).text_part)

pub returns-in-Err-clause-no_hall : goal.returns-in-Err-clause-no_hall
returns-in-Err-clause-no_hall g c = (
  c.in-Err.fault,
  c.status-in-Err.ensures,
  not_opened g (goal.at.returns-in-Err-clause-no_hall g c).In-Err,
)

pub returns-in-Err-clause-ends : goal.returns-in-Err-clause-ends
returns-in-Err-clause-ends g c =
    inl (
      c.in-Err.fault,
      c.status-in-Err.ensures,
      not_opened g (goal.at.returns-in-Err-clause-ends g c).In-Err,
    )
