use Rattle.std.proofs.Common.{[], refl, sym, ap, ◌∙◌, append-nil}
use Rattle.serve_core.proofs.Settling.{left_then, pays, pays_here, pays_not_first, pays_out, stays_then}
use Rattle.serve_core.specs.Keeping.{KeepsLeft}
use Rattle.serve_core.specs.Tending.{stand}
use Rattle.serve_core.proofs.Telling.{where_same}
use Rattle.serve_core.proofs.Tending.{settles_then, tended_same}
use Rattle.serve_core.proofs.settle.Host.settle_all.Goals as goal

pub loop-worker-init : goal.loop-worker-init
loop-worker-init g c = record {
  kept = c.requires;
  same = (refl, refl);
  tended = λ store.
      tended_same (stand c.args.self.now.pass c.args.self.now.supply (g.D.Doorway.tale c.args.door.now) store);
  left = where_same (g.D.Doorway.tale c.args.door.now) KeepsLeft (λ tale. (refl, refl, refl));
  faults = refl;
}

pub settle-requires-clause-other_here : goal.settle-requires-clause-other_here
settle-requires-clause-other_here g c κs within =
    let items = c.loop-worker.self.waiting.items in
    let d = c.in-Some.worker in
    let r = c.join-returned.result in
    pays_here g.C.Clock.shows c.args.shared.now.hall.now c.args.shared.now.clock.now c.loop-worker.self.supply r.end
    (g.D.Doorway.tale c.loop-worker.door) c.loop-worker.self.pass r.pass items c.pop.new.self.items [] d (record {
      tale = g.L.Link.tale r.link;
      faults = g.L.Link.faults r.link;
    }) c.loop-worker.invariant.kept c.in-Some.ensures.items c.join-returned.ensures

pub settle-requires-clause-other_not_first : goal.settle-requires-clause-other_not_first
settle-requires-clause-other_not_first g c κs within =
    let items = c.loop-worker.self.waiting.items in
    let d = c.in-Some.worker in
    let r = c.join-returned.result in
    pays_not_first g.C.Clock.shows c.args.shared.now.hall.now c.args.shared.now.clock.now c.loop-worker.self.supply
    r.end (g.D.Doorway.tale c.loop-worker.door) c.loop-worker.self.pass r.pass items c.pop.new.self.items [] d (record {
      tale = g.L.Link.tale r.link;
      faults = g.L.Link.faults r.link;
    }) c.loop-worker.invariant.kept c.in-Some.ensures.items c.join-returned.ensures

pub settle-requires-clause-out : goal.settle-requires-clause-out
settle-requires-clause-out g c κs within =
    let items = c.loop-worker.self.waiting.items in
    let d = c.in-Some.worker in
    let r = c.join-returned.result in
    pays_out g.C.Clock.shows c.args.shared.now.hall.now c.args.shared.now.clock.now c.loop-worker.self.supply r.end
    (g.D.Doorway.tale c.loop-worker.door) c.loop-worker.self.pass r.pass items c.pop.new.self.items [] d (record {
      tale = g.L.Link.tale r.link;
      faults = g.L.Link.faults r.link;
    }) c.loop-worker.invariant.kept c.in-Some.ensures.items c.join-returned.ensures

pub loop-worker-preserved : goal.loop-worker-preserved
loop-worker-preserved g c =
    let items = c.loop-worker.self.waiting.items in
    let d = c.in-Some.worker in
    let r = c.join-returned.result in
    record {
      kept =
          pays g.C.Clock.shows c.args.shared.now.hall.now c.args.shared.now.clock.now c.loop-worker.self.supply r.end
          (g.D.Doorway.tale c.loop-worker.door) c.loop-worker.self.pass r.pass items c.pop.new.self.items [] d (record {
            tale = g.L.Link.tale r.link;
            faults = g.L.Link.faults r.link;
          }) c.loop-worker.invariant.kept c.in-Some.ensures.items c.join-returned.ensures c.settle.new.self.supply
          (g.D.Doorway.tale c.settle.new.door) c.settle.new.self.pass c.settle.new.self.waiting.items
          c.settle.ensures.joined c.settle.ensures.back
          (ap (λ w. w.items) c.settle.ensures.waiting ∙ sym (append-nil c.pop.new.self.items)) c.settle.ensures.supply;
      same =
          stays_then c.args.self.now.pass c.loop-worker.self.pass r.pass c.settle.new.self.pass
          c.loop-worker.invariant.same c.settle.ensures.joined;
      tended =
          settles_then c.args.self.now.pass c.loop-worker.self.pass r.pass c.settle.new.self.pass c.args.self.now.supply
          c.loop-worker.self.supply c.settle.new.self.supply r.end (g.D.Doorway.tale c.args.door.now)
          (g.D.Doorway.tale c.loop-worker.door) (g.D.Doorway.tale c.settle.new.door) (record {
            tale = g.L.Link.tale r.link;
            faults = g.L.Link.faults r.link;
          }) c.loop-worker.invariant.tended c.settle.ensures.joined c.settle.ensures.back c.settle.ensures.supply;
      left =
          left_then (g.D.Doorway.tale c.args.door.now) (g.D.Doorway.tale c.loop-worker.door)
          (g.D.Doorway.tale c.settle.new.door) r.pass.number (record {
            tale = g.L.Link.tale r.link;
            faults = g.L.Link.faults r.link;
          }) c.loop-worker.invariant.left c.settle.ensures.back;
      faults = c.settle.ensures.faults ∙ c.loop-worker.invariant.faults;
    }
