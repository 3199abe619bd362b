use Rattle.std.proofs.Common.{[], ◌∷◌, arith, inl, inr, refl, subst, sym}
use Rattle.std.specs.Prelude.{Contains}
use Rattle.serve_core.specs.Outside.{Sheet, sheet_of}
use Rattle.edge_traits.specs.Calls.{Store, store_of}
use Rattle.lobby_load.specs.declared.refusals.StoreFault.TheVariants as unopened
use Rattle.serve_call.proofs.Unopened.{unasked}
use Rattle.serve_call.proofs.ServeEnds.{call_bad, call_calm, call_door, call_good, call_keeper, call_listed, call_text, call_told, call_usage, call_write, usage_else, usage_front, usage_listed, usage_told}
use Rattle.serve_call.proofs.serve_call.serve.Goals as goal

pub returns-in-Ok-clause-usage : goal.returns-in-Ok-clause-usage
returns-in-Ok-clause-usage g c = λ e. absurd (call_usage c.serve_players.ensures.ends e)

pub returns-in-Ok-clause-write_fault : goal.returns-in-Ok-clause-write_fault
returns-in-Ok-clause-write_fault g c = call_write c.serve_players.ensures.ends

pub returns-in-Ok-clause-door_fault : goal.returns-in-Ok-clause-door_fault
returns-in-Ok-clause-door_fault g c = call_door c.serve_players.ensures.ends

pub returns-in-Ok-clause-keeper_fault : goal.returns-in-Ok-clause-keeper_fault
returns-in-Ok-clause-keeper_fault g c = call_keeper c.serve_players.ensures.ends

pub returns-in-Ok-clause-bad_record : goal.returns-in-Ok-clause-bad_record
returns-in-Ok-clause-bad_record g c = λ e.
    let bad = call_bad c.serve_players.ensures.ends e in (c.in-Ok.ensures.asks, bad.0, bad.1, bad.2)

pub returns-in-Ok-clause-good_store : goal.returns-in-Ok-clause-good_store
returns-in-Ok-clause-good_store g c = call_good c.serve_players.ensures.ends

pub returns-in-Ok-clause-text : goal.returns-in-Ok-clause-text
returns-in-Ok-clause-text g c = call_text c.serve_players.ensures.ends

pub returns-in-Ok-clause-complete : goal.returns-in-Ok-clause-complete
returns-in-Ok-clause-complete g c = λ asks. call_calm c.serve_players.ensures.ends

pub returns-in-Ok-clause-statuses : goal.returns-in-Ok-clause-statuses
returns-in-Ok-clause-statuses g c = call_listed c.serve_players.ensures.ends

pub returns-in-Ok-clause-write_told : goal.returns-in-Ok-clause-write_told
returns-in-Ok-clause-write_told g c = call_told c.serve_players.ensures.ends

pub returns-in-Err-Usage-clause-statuses : goal.returns-in-Err-Usage-clause-statuses
returns-in-Err-Usage-clause-statuses g c =
    usage_listed (g.K.Sink.written c.args.sink.now) (g.K.Sink.written c.tell_usage.new.sink) c.tell_usage.result
    c.tell_usage.ensures.ends

pub returns-in-Err-Usage-clause-usage_part : goal.returns-in-Err-Usage-clause-usage_part
returns-in-Err-Usage-clause-usage_part g c = λ none.
    usage_front (g.K.Sink.written c.args.sink.now) (g.K.Sink.written c.tell_usage.new.sink) c.tell_usage.result
    c.tell_usage.ensures.ends

pub returns-in-Err-Usage-clause-keeper_fault : goal.returns-in-Err-Usage-clause-keeper_fault
returns-in-Err-Usage-clause-keeper_fault g c = λ e.
    absurd (usage_else (g.K.Sink.written c.args.sink.now) (g.K.Sink.written c.tell_usage.new.sink) c.tell_usage.result
    c.tell_usage.ensures.ends (inl e))

pub returns-in-Err-Usage-clause-bad_record : goal.returns-in-Err-Usage-clause-bad_record
returns-in-Err-Usage-clause-bad_record g c = λ e.
    absurd (usage_else (g.K.Sink.written c.args.sink.now) (g.K.Sink.written c.tell_usage.new.sink) c.tell_usage.result
    c.tell_usage.ensures.ends (inr (inl e)))

pub returns-in-Err-Usage-clause-good_store : goal.returns-in-Err-Usage-clause-good_store
returns-in-Err-Usage-clause-good_store g c = λ e.
    absurd (usage_else (g.K.Sink.written c.args.sink.now) (g.K.Sink.written c.tell_usage.new.sink) c.tell_usage.result
    c.tell_usage.ensures.ends (inr (inl e)))

pub returns-in-Err-Memory-clause-complete : goal.returns-in-Err-Memory-clause-complete
returns-in-Err-Memory-clause-complete g c = λ asks no_door no_sink no_keeper.
    subst (Contains (0 ∷ 5 ∷ 6 ∷ 9 ∷ [])) (sym c.status.ensures) (2, omega arith, refl)

pub returns-in-Err-Usage-clause-write_told : goal.returns-in-Err-Usage-clause-write_told
returns-in-Err-Usage-clause-write_told g c = usage_told c.tell_usage.ensures.calm

pub returns-in-Err-Memory-clause-no_hall : goal.returns-in-Err-Memory-clause-no_hall
returns-in-Err-Memory-clause-no_hall g c = λ asks.
    let store : Store = store_of g.P.Keeper.table g.P.Keeper.faults g.P.Keeper.calls c.args.keeper.now in
    let sheet : Sheet = sheet_of g.K.Sink.written g.K.Sink.faults c.args.sink.now in
    (unopened.Memory, c.status.ensures, unasked store sheet)
