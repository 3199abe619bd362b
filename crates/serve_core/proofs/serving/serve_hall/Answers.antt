use Rattle.std.proofs.Common.{le_trans}
use Rattle.edge_traits.specs.declared.sink.Sent.TheVariants as sent
use Rattle.serve_turn.specs.Stopping.{end_of, is_short}
use Rattle.serve_core.specs.Outside.{Sheet, sheet_of}
use Rattle.edge_traits.specs.Calls.{Store, store_of}
use Rattle.serve_turn.specs.Turns.{supply_then}
use Rattle.serve_core.proofs.Closing.{all_served, unready_ends, unready_served}
use Rattle.serve_core.proofs.Ending.{closes_by, ends_by, short_before, short_turn}
use Rattle.serve_core.proofs.Tending.{tended_counted}
use Rattle.serve_core.proofs.Writing.{says_closed}
use Rattle.serve_core.proofs.serving.serve_hall.Goals as goal

pub returns-in-All-clause-served : goal.returns-in-All-clause-served
returns-in-All-clause-served g c =
    let h = c.host_links-hosted.result in
    let t = c.last_turn-pass.result in
    let sent = c.say_closed-sent.result in
    let first : Sheet = sheet_of g.K.Sink.written g.K.Sink.faults c.args.sink.now in
    let ready : Sheet = sheet_of g.K.Sink.written g.K.Sink.faults c.say_ready.new.sink in
    let last : Sheet = sheet_of g.K.Sink.written g.K.Sink.faults c.say_closed-sent.new.sink in
    let old : Store = store_of g.P.Keeper.table g.P.Keeper.faults g.P.Keeper.calls c.args.keeper.now in
    let mid : Store = store_of g.P.Keeper.table g.P.Keeper.faults g.P.Keeper.calls c.host_links-hosted.new.keeper in
    let after : Store = store_of g.P.Keeper.table g.P.Keeper.faults g.P.Keeper.calls c.last_turn-pass.new.keeper in
    let opens = g.D.Doorway.tale c.args.door.now in
    let door = g.D.Doorway.tale c.host_links-hosted.new.door in
    let supply = supply_then t.2 h.supply in
    let closes =
    closes_by h.end sent t.1 supply door h.pass.splits (g.D.Doorway.faults c.args.door.now)
    (g.D.Doorway.faults c.host_links-hosted.new.door) first ready last c.host_links-hosted.ensures.stopped
    (record { wrote = c.in-All.ensures.wrote; cause = tt; calm = c.in-All.ensures.calm })
    (record {
      wrote = c.say_closed-sent.ensures.wrote;
      cause = c.say_closed-sent.ensures.cause;
      calm = c.say_closed-sent.ensures.calm;
    }) in
    rw (c.noted.ensures, c.end_of-end.ensures, c.then-supply.ensures)
    (all_served g.C.Clock.shows c.args.shared.now.hall.now c.args.shared.now.clock.now h.supply opens door
    c.requires.first.0 c.args.pass h.pass t.0 old mid after t.1 t.2 c.host_links-hosted.ensures.kept c.requires.first.1
    c.host_links-hosted.ensures.tended c.requires.door c.requires.whole c.last_turn-pass.ensures.turn
    c.last_turn-pass.ensures.fault c.last_turn-pass.ensures.counted (is_short supply sent)
    (short_before t.2 h.supply sent) (short_turn t.2 h.supply sent) (end_of h.end sent t.1 supply) first last closes)

pub returns-in-All-clause-ends : goal.returns-in-All-clause-ends
returns-in-All-clause-ends g c =
    rw (c.end_of-end.ensures)
    (ends_by c.host_links-hosted.result.end c.say_closed-sent.result c.last_turn-pass.result.1 c.then-supply.result
    (g.D.Doorway.faults c.args.door.now) (g.D.Doorway.faults c.host_links-hosted.new.door)
    (sheet_of g.K.Sink.written g.K.Sink.faults c.args.sink.now)
    (sheet_of g.K.Sink.written g.K.Sink.faults c.say_closed-sent.new.sink)
    (store_of g.P.Keeper.table g.P.Keeper.faults g.P.Keeper.calls c.args.keeper.now)
    (store_of g.P.Keeper.table g.P.Keeper.faults g.P.Keeper.calls c.host_links-hosted.new.keeper)
    (store_of g.P.Keeper.table g.P.Keeper.faults g.P.Keeper.calls c.last_turn-pass.new.keeper)
    c.host_links-hosted.ensures.stopped.1
    (says_closed c.say_closed-sent.result (sheet_of g.K.Sink.written g.K.Sink.faults c.args.sink.now)
    (sheet_of g.K.Sink.written g.K.Sink.faults c.say_ready.new.sink)
    (sheet_of g.K.Sink.written g.K.Sink.faults c.say_closed-sent.new.sink)
    (record { wrote = c.in-All.ensures.wrote; cause = tt; calm = c.in-All.ensures.calm })
    (record {
      wrote = c.say_closed-sent.ensures.wrote;
      cause = c.say_closed-sent.ensures.cause;
      calm = c.say_closed-sent.ensures.calm;
    }))
    (tended_counted c.host_links-hosted.ensures.tended) c.last_turn-pass.ensures.fault)

pub returns-in-All-clause-keeper_counted : goal.returns-in-All-clause-keeper_counted
returns-in-All-clause-keeper_counted g c =
    le_trans (tended_counted c.host_links-hosted.ensures.tended) c.last_turn-pass.ensures.counted

pub returns-in-Failed-clause-served : goal.returns-in-Failed-clause-served
returns-in-Failed-clause-served g c =
    rw (c.noted-in-Failed.ensures)
    (unready_served g.C.Clock.shows c.args.shared.now.clock.now (g.D.Doorway.tale c.args.door.now) sent.Failed
    (sheet_of g.K.Sink.written g.K.Sink.faults c.args.sink.now)
    (sheet_of g.K.Sink.written g.K.Sink.faults c.say_ready.new.sink) c.requires.first.1 c.requires.door
    c.requires.whole c.last_turn-pass-in-Failed.ensures.turn c.last_turn-pass-in-Failed.ensures.fault
    c.last_turn-pass-in-Failed.ensures.counted (λ e. cc)
    (record { wrote = c.in-Failed.ensures.wrote; cause = c.in-Failed.ensures.cause; calm = tt }))

pub returns-in-Failed-clause-ends : goal.returns-in-Failed-clause-ends
returns-in-Failed-clause-ends g c =
    unready_ends sent.Failed c.last_turn-pass-in-Failed.result.1 c.last_turn-pass-in-Failed.result.2
    (g.D.Doorway.faults c.args.door.now) (sheet_of g.K.Sink.written g.K.Sink.faults c.args.sink.now)
    (sheet_of g.K.Sink.written g.K.Sink.faults c.say_ready.new.sink)
    (store_of g.P.Keeper.table g.P.Keeper.faults g.P.Keeper.calls c.args.keeper.now)
    (store_of g.P.Keeper.table g.P.Keeper.faults g.P.Keeper.calls c.last_turn-pass-in-Failed.new.keeper)
    (λ e. cc) (record {
      wrote = c.in-Failed.ensures.wrote;
      cause = c.in-Failed.ensures.cause;
      calm = tt;
    }) c.last_turn-pass-in-Failed.ensures.fault

pub returns-in-Memory-clause-served : goal.returns-in-Memory-clause-served
returns-in-Memory-clause-served g c =
    rw (c.noted-in-Memory.ensures, c.end_of-end-in-Memory.ensures)
    (unready_served g.C.Clock.shows c.args.shared.now.clock.now (g.D.Doorway.tale c.args.door.now) sent.Memory
    (sheet_of g.K.Sink.written g.K.Sink.faults c.args.sink.now)
    (sheet_of g.K.Sink.written g.K.Sink.faults c.say_ready.new.sink) c.requires.first.1 c.requires.door
    c.requires.whole c.last_turn-pass-in-Memory.ensures.turn c.last_turn-pass-in-Memory.ensures.fault
    c.last_turn-pass-in-Memory.ensures.counted (λ e. cc)
    (record { wrote = c.in-Memory.ensures.wrote; cause = tt; calm = c.in-Memory.ensures.calm }))

pub returns-in-Memory-clause-ends : goal.returns-in-Memory-clause-ends
returns-in-Memory-clause-ends g c =
    rw (c.end_of-end-in-Memory.ensures)
    (unready_ends sent.Memory c.last_turn-pass-in-Memory.result.1 c.last_turn-pass-in-Memory.result.2
    (g.D.Doorway.faults c.args.door.now) (sheet_of g.K.Sink.written g.K.Sink.faults c.args.sink.now)
    (sheet_of g.K.Sink.written g.K.Sink.faults c.say_ready.new.sink)
    (store_of g.P.Keeper.table g.P.Keeper.faults g.P.Keeper.calls c.args.keeper.now)
    (store_of g.P.Keeper.table g.P.Keeper.faults g.P.Keeper.calls c.last_turn-pass-in-Memory.new.keeper)
    (λ e. cc) (record {
      wrote = c.in-Memory.ensures.wrote;
      cause = tt;
      calm = c.in-Memory.ensures.calm;
    }) c.last_turn-pass-in-Memory.ensures.fault)
