use Rattle.std.proofs.Common.{◌∙◌, arith, refl, rules}
use Rattle.edge_traits.specs.Door.{KeepsLinks}
use Rattle.serve_core.specs.Tending.{Stand, stand}
use Rattle.edge_traits.specs.Calls.{Store, store_of}
use Rattle.serve_turn.specs.declared.supply.Supply.TheVariants.{Enough}
use Rattle.serve_core.proofs.Stopping.{some_stops, stopped_on}
use Rattle.serve_core.proofs.Telling.{where_same, links_then}
use Rattle.serve_core.proofs.Tending.{tended_same, tended_then}
use Rattle.serve_core.proofs.hosting.take_links.Goals as goal

pub loop-init : goal.loop-init
loop-init g c =
    let door = g.D.Doorway.tale c.args.door.now in
    let store : Store = store_of g.P.Keeper.table g.P.Keeper.faults g.P.Keeper.calls c.args.keeper.now in
    record {
      forever = search rules;
      count = c.requires.none;
      few = omega arith;
      kept = rw c.new.ensures.items c.requires.kept;
      tended = tended_same (stand c.args.pass Enough door store);
      opening = refl;
      links = where_same door KeepsLinks (λ tale. refl);
      counted = omega arith;
    }

pub returns-in-Some-end-clause-tended : goal.returns-in-Some-end-clause-tended
returns-in-Some-end-clause-tended g c =
    let l = c.loop in
    let r = c.round-after.result.0 in
    let old : Store = store_of g.P.Keeper.table g.P.Keeper.faults g.P.Keeper.calls c.args.keeper.now in
    let mid : Store = store_of g.P.Keeper.table g.P.Keeper.faults g.P.Keeper.calls l.keeper in
    let new : Store = store_of g.P.Keeper.table g.P.Keeper.faults g.P.Keeper.calls c.round-after.new.keeper in
    let first : Stand = stand c.args.pass Enough (g.D.Doorway.tale c.args.door.now) old in
    let before : Stand = stand l.host.pass l.host.supply (g.D.Doorway.tale l.door) mid in
    let after : Stand = stand r.pass r.supply (g.D.Doorway.tale c.round-after.new.door) new in
    let last : Stand = stand c.at_end.result.pass c.at_end.result.supply (g.D.Doorway.tale c.at_end.new.door) new in
    tended_then first after last (tended_then first before after l.invariant.tended c.round-after.ensures.tended)
    (c.at_end.ensures.tended new)

pub loop-preserved : goal.loop-preserved
loop-preserved g c =
    let l = c.loop in
    let r = c.round-after.result.0 in
    let start = g.D.Doorway.tale c.args.door.now in
    let door = g.D.Doorway.tale l.door in
    let door' = g.D.Doorway.tale c.round-after.new.door in
    let old : Store = store_of g.P.Keeper.table g.P.Keeper.faults g.P.Keeper.calls c.args.keeper.now in
    let mid : Store = store_of g.P.Keeper.table g.P.Keeper.faults g.P.Keeper.calls l.keeper in
    let new : Store = store_of g.P.Keeper.table g.P.Keeper.faults g.P.Keeper.calls c.round-after.new.keeper in
    record {
      forever = search rules;
      count = c.round-after.ensures.count;
      few = search rules;
      kept = c.round-after.ensures.kept;
      tended =
          tended_then (stand c.args.pass Enough start old) (stand l.host.pass l.host.supply door mid)
          (stand r.pass r.supply door' new) l.invariant.tended c.round-after.ensures.tended;
      opening = c.round-after.ensures.opening ∙ l.invariant.opening;
      links = links_then start door door' l.invariant.links c.round-after.ensures.links;
      counted = omega (arith, l.invariant.counted, c.round-after.ensures.counted);
    }

pub returns-in-Some-end-clause-stopped : goal.returns-in-Some-end-clause-stopped
returns-in-Some-end-clause-stopped g c =
    let l = c.loop in
    let r = c.round-after in
    stopped_on c.in-Some-end.end c.at_end.result.end r.result.1 c.at_end.result.pass.splits
    (g.D.Doorway.tale r.new.door) (g.D.Doorway.tale c.at_end.new.door)
    (g.D.Doorway.faults c.args.door.now) (g.D.Doorway.faults l.door) (g.D.Doorway.faults r.new.door)
    (g.D.Doorway.faults c.at_end.new.door)
    (some_stops r.result.2 c.in-Some-end.end r.result.1 (g.D.Doorway.tale r.new.door) (g.D.Doorway.faults l.door)
    (g.D.Doorway.faults r.new.door) c.in-Some-end.is r.ensures.ends)
    c.at_end.ensures.end
    (c.at_end.ensures.same.0 ∙ r.ensures.count) c.at_end.ensures.left l.invariant.counted c.at_end.ensures.faults
