use Rattle.std.proofs.Common.{◌≡◌, ap, sym, subst}
use Rattle.edge_traits.specs.declared.doorway.Came.TheVariants as came
use Rattle.serve_turn.specs.declared.supply.Supply.{Supply}
use Rattle.serve_core.specs.Keeping.{Underway}
use Rattle.serve_core.specs.Tending.{Stand, Tended, stand}
use Rattle.edge_traits.specs.Calls.{Store, store_of}
use Rattle.serve_turn.specs.Turns.{supply_then}
use Rattle.serve_core.proofs.Ended.{ended_kept, ended_links, ended_stops, ended_tended}
use Rattle.serve_core.proofs.Keeping.{kept_quiet}
use Rattle.serve_core.proofs.Stopping.{stops_spent}
use Rattle.serve_core.proofs.Telling.{links_came, links_stay}
use Rattle.serve_core.proofs.Tending.{door_then, one_quiet, same_then, tended_then, tended_turn}
use Rattle.serve_core.proofs.round.round.Goals as goal

pub returns-in-Quiet-clause-kept : goal.returns-in-Quiet-clause-kept
returns-in-Quiet-clause-kept g c =
    let host = c.room_ahead-ended.new.self in
    let room = c.room_ahead-ended.ensures in
    let door = g.D.Doorway.tale c.settle_ended.new.door in
    let turn = c.at_quiet.ensures.turn in
    let k : Underway g.C.Clock.shows c.args.shared.now.hall.now c.args.shared.now.clock.now host.supply door host.pass
    host.waiting.items =
    rw (room.supply, room.pass, room.waiting) c.settle_ended.ensures.kept in
    rw (turn.3, ap (λ w. w.items) c.at_quiet.ensures.waiting)
    (kept_quiet g.C.Clock.shows c.args.shared.now.hall.now c.args.shared.now.clock.now host.supply turn.0 turn.1
    (store_of g.P.Keeper.table g.P.Keeper.faults g.P.Keeper.calls c.args.keeper.now)
    (store_of g.P.Keeper.table g.P.Keeper.faults g.P.Keeper.calls c.at_quiet.new.keeper) door
    (g.D.Doorway.tale c.ask.new.door) host.pass c.at_quiet.result.pass host.waiting.items k c.in-Quiet.ensures.gives
    turn.2)

pub returns-in-Quiet-clause-tended : goal.returns-in-Quiet-clause-tended
returns-in-Quiet-clause-tended g c =
    let host = c.room_ahead-ended.new.self in
    let room = c.room_ahead-ended.ensures in
    let settled = g.D.Doorway.tale c.settle_ended.new.door in
    let door = g.D.Doorway.tale c.ask.new.door in
    let turn = c.at_quiet.ensures.turn in
    let old : Store = store_of g.P.Keeper.table g.P.Keeper.faults g.P.Keeper.calls c.args.keeper.now in
    let new : Store = store_of g.P.Keeper.table g.P.Keeper.faults g.P.Keeper.calls c.at_quiet.new.keeper in
    let start : Stand = stand c.args.host.pass c.args.host.supply (g.D.Doorway.tale c.args.door.now) old in
    let so_far =
    same_then start c.settle_ended.new.self.pass host.pass c.settle_ended.new.self.supply host.supply settled old
    (c.settle_ended.ensures.tended old) room.pass room.supply in
    subst (λ (s : Supply). Tended start (stand c.at_quiet.result.pass s door new)) (sym turn.3)
    (tended_then start (stand host.pass host.supply settled old)
    (stand c.at_quiet.result.pass (supply_then turn.1 host.supply) door new) so_far
    (tended_turn turn.0 turn.1 host.pass c.at_quiet.result.pass host.supply settled door old new turn.2
    (one_quiet g.D.Link.Link.tale settled door c.in-Quiet.ensures.gives) turn.4 c.at_quiet.ensures.counted))

pub returns-in-Link-clause-links : goal.returns-in-Link-clause-links
returns-in-Link-clause-links g c =
    let start = g.D.Doorway.tale c.args.door.now in
    let settled = g.D.Doorway.tale c.settle_ended.new.door in
    let there = g.D.Doorway.tale c.ask.new.door in
    links_stay start there (g.D.Doorway.tale c.attend.new.door)
    (links_came g.D.Link.Link.tale (came.Link c.in-Link.link) start settled there c.settle_ended.ensures.left
    c.in-Link.ensures.gives)
    c.attend.ensures.left

pub returns-in-Link-clause-tended : goal.returns-in-Link-clause-tended
returns-in-Link-clause-tended g c =
    let host = c.room_ahead-ended.new.self in
    let room = c.room_ahead-ended.ensures in
    let settled = g.D.Doorway.tale c.settle_ended.new.door in
    let door = g.D.Doorway.tale c.ask.new.door in
    let old : Store = store_of g.P.Keeper.table g.P.Keeper.faults g.P.Keeper.calls c.args.keeper.now in
    let start : Stand = stand c.args.host.pass c.args.host.supply (g.D.Doorway.tale c.args.door.now) old in
    let so_far =
    same_then start c.settle_ended.new.self.pass host.pass c.settle_ended.new.self.supply host.supply settled old
    (c.settle_ended.ensures.tended old) room.pass room.supply in
    tended_then start (stand host.pass host.supply door old)
    (stand c.attend.new.host.pass c.attend.new.host.supply (g.D.Doorway.tale c.attend.new.door) old)
    (door_then g.D.Link.Link.tale (came.Link c.in-Link.link) start host.pass host.supply settled door old (λ none. none)
    so_far c.in-Link.ensures.gives)
    (c.attend.ensures.tended old)

pub returns-in-Ended-clause-tended : goal.returns-in-Ended-clause-tended
returns-in-Ended-clause-tended g c =
    let host = c.room_ahead-ended.new.self in
    let room = c.room_ahead-ended.ensures in
    let settled = g.D.Doorway.tale c.settle_ended.new.door in
    let old : Store = store_of g.P.Keeper.table g.P.Keeper.faults g.P.Keeper.calls c.args.keeper.now in
    let start : Stand = stand c.args.host.pass c.args.host.supply (g.D.Doorway.tale c.args.door.now) old in
    let so_far =
    same_then start c.settle_ended.new.self.pass host.pass c.settle_ended.new.self.supply host.supply settled old
    (c.settle_ended.ensures.tended old) room.pass room.supply in
    ended_tended g.D.Link.Link.tale c.in-Ended.end start host.pass host.supply settled
    (g.D.Doorway.tale c.ask.new.door) old so_far c.in-Ended.ensures.gives

pub returns-in-Ended-clause-links : goal.returns-in-Ended-clause-links
returns-in-Ended-clause-links g c =
    ended_links g.D.Link.Link.tale c.in-Ended.end (g.D.Doorway.tale c.args.door.now)
    (g.D.Doorway.tale c.settle_ended.new.door) (g.D.Doorway.tale c.ask.new.door) c.settle_ended.ensures.left
    c.in-Ended.ensures.gives

pub returns-in-Link-clause-ends : goal.returns-in-Link-clause-ends
returns-in-Link-clause-ends g c =
    stops_spent g.D.Link.Link.tale c.in-Link.link (g.D.Doorway.tale c.settle_ended.new.door)
    (g.D.Doorway.tale c.ask.new.door) (g.D.Doorway.tale c.attend.new.door) _ _ _ c.spent.result c.in-Link.ensures.gives
    c.attend.ensures.left c.spent.ensures

pub returns-in-Ended-clause-ends : goal.returns-in-Ended-clause-ends
returns-in-Ended-clause-ends g c =
    ended_stops g.D.Link.Link.tale c.in-Ended.end (g.D.Doorway.tale c.settle_ended.new.door)
    (g.D.Doorway.tale c.ask.new.door) c.args.count (g.D.Doorway.faults c.args.door.now)
    (g.D.Doorway.faults c.settle_ended.new.door) (g.D.Doorway.faults c.ask.new.door) c.in-Ended.ensures.gives
    c.in-Ended.ensures.cause c.settle_ended.ensures.faults c.requires.few

pub returns-in-Ended-clause-kept : goal.returns-in-Ended-clause-kept
returns-in-Ended-clause-kept g c =
    let host = c.room_ahead-ended.new.self in
    let room = c.room_ahead-ended.ensures in
    let settled = g.D.Doorway.tale c.settle_ended.new.door in
    let k : Underway g.C.Clock.shows c.args.shared.now.hall.now c.args.shared.now.clock.now host.supply settled
    host.pass host.waiting.items =
    rw (room.supply, room.pass, room.waiting) c.settle_ended.ensures.kept in
    ended_kept g.C.Clock.shows c.args.shared.now.hall.now c.args.shared.now.clock.now host.supply g.D.Link.Link.tale
    c.in-Ended.end settled (g.D.Doorway.tale c.ask.new.door) host.pass host.waiting.items k c.in-Ended.ensures.gives
