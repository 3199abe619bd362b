use Rattle.std.proofs.Common.{refl, suc, take, drop, ap, ◌∙◌, arith}
use Rattle.serve_core.proofs.Settling.{around, left_then, pays, pays_here, pays_not_first, pays_out, stays_then}
use Rattle.serve_core.specs.Keeping.{KeepsLeft}
use Rattle.serve_core.specs.Tending.{stand}
use Rattle.serve_core.proofs.Telling.{where_same}
use Rattle.serve_core.proofs.Tending.{settles_then, tended_same}
use Rattle.serve_core.proofs.settle.Host.settle_ended.Goals as goal

pub loop-next-init : goal.loop-next-init
loop-next-init g c = record {
  kept = c.requires;
  same = (refl, refl);
  tended = λ store.
      tended_same (stand c.args.self.now.pass c.args.self.now.supply (g.D.Doorway.tale c.args.door.now) store);
  left = where_same (g.D.Doorway.tale c.args.door.now) KeepsLeft (λ tale. (refl, refl, refl));
  faults = refl;
}

pub settle-requires-clause-other_here : goal.settle-requires-clause-other_here
settle-requires-clause-other_here g c κs within =
    let items = c.loop-next.self.waiting.items in
    let d = c.remove-worker.result in
    let r = c.join-returned.result in
    pays_here g.C.Clock.shows c.args.shared.now.hall.now c.args.shared.now.clock.now c.loop-next.self.supply r.end
    (g.D.Doorway.tale c.loop-next.door) c.loop-next.self.pass r.pass items (take c.loop-next.next items)
    (drop (suc c.loop-next.next) items) d (record {
      tale = g.L.Link.tale r.link;
      faults = g.L.Link.faults r.link;
    }) c.loop-next.invariant.kept
    (around items c.loop-next.next d (omega (arith, c.loop-next-test.true, c.len.ensures))
    c.remove-worker.ensures.value)
    c.join-returned.ensures

pub settle-requires-clause-other_not_first : goal.settle-requires-clause-other_not_first
settle-requires-clause-other_not_first g c κs within =
    let items = c.loop-next.self.waiting.items in
    let d = c.remove-worker.result in
    let r = c.join-returned.result in
    pays_not_first g.C.Clock.shows c.args.shared.now.hall.now c.args.shared.now.clock.now c.loop-next.self.supply r.end
    (g.D.Doorway.tale c.loop-next.door) c.loop-next.self.pass r.pass items (take c.loop-next.next items)
    (drop (suc c.loop-next.next) items) d (record {
      tale = g.L.Link.tale r.link;
      faults = g.L.Link.faults r.link;
    }) c.loop-next.invariant.kept
    (around items c.loop-next.next d (omega (arith, c.loop-next-test.true, c.len.ensures))
    c.remove-worker.ensures.value)
    c.join-returned.ensures

pub settle-requires-clause-out : goal.settle-requires-clause-out
settle-requires-clause-out g c κs within =
    let items = c.loop-next.self.waiting.items in
    let d = c.remove-worker.result in
    let r = c.join-returned.result in
    pays_out g.C.Clock.shows c.args.shared.now.hall.now c.args.shared.now.clock.now c.loop-next.self.supply r.end
    (g.D.Doorway.tale c.loop-next.door) c.loop-next.self.pass r.pass items (take c.loop-next.next items)
    (drop (suc c.loop-next.next) items) d (record {
      tale = g.L.Link.tale r.link;
      faults = g.L.Link.faults r.link;
    }) c.loop-next.invariant.kept
    (around items c.loop-next.next d (omega (arith, c.loop-next-test.true, c.len.ensures))
    c.remove-worker.ensures.value)
    c.join-returned.ensures

pub loop-next-preserved-then-has_ended : goal.loop-next-preserved-then-has_ended
loop-next-preserved-then-has_ended g c =
    let items = c.loop-next.self.waiting.items in
    let d = c.remove-worker.result in
    let r = c.join-returned.result in
    record {
      kept =
          pays g.C.Clock.shows c.args.shared.now.hall.now c.args.shared.now.clock.now c.loop-next.self.supply r.end
          (g.D.Doorway.tale c.loop-next.door) c.loop-next.self.pass r.pass items (take c.loop-next.next items)
          (drop (suc c.loop-next.next) items) d (record {
            tale = g.L.Link.tale r.link;
            faults = g.L.Link.faults r.link;
          }) c.loop-next.invariant.kept
          (around items c.loop-next.next d (omega (arith, c.loop-next-test.true, c.len.ensures))
          c.remove-worker.ensures.value)
          c.join-returned.ensures c.settle.new.self.supply (g.D.Doorway.tale c.settle.new.door) c.settle.new.self.pass
          c.settle.new.self.waiting.items c.settle.ensures.joined c.settle.ensures.back
          (ap (λ w. w.items) c.settle.ensures.waiting ∙ c.remove-worker.ensures.items) c.settle.ensures.supply;
      same =
          stays_then c.args.self.now.pass c.loop-next.self.pass r.pass c.settle.new.self.pass c.loop-next.invariant.same
          c.settle.ensures.joined;
      tended =
          settles_then c.args.self.now.pass c.loop-next.self.pass r.pass c.settle.new.self.pass c.args.self.now.supply
          c.loop-next.self.supply c.settle.new.self.supply r.end (g.D.Doorway.tale c.args.door.now)
          (g.D.Doorway.tale c.loop-next.door) (g.D.Doorway.tale c.settle.new.door) (record {
            tale = g.L.Link.tale r.link;
            faults = g.L.Link.faults r.link;
          }) c.loop-next.invariant.tended c.settle.ensures.joined c.settle.ensures.back c.settle.ensures.supply;
      left =
          left_then (g.D.Doorway.tale c.args.door.now) (g.D.Doorway.tale c.loop-next.door)
          (g.D.Doorway.tale c.settle.new.door) r.pass.number (record {
            tale = g.L.Link.tale r.link;
            faults = g.L.Link.faults r.link;
          }) c.loop-next.invariant.left c.settle.ensures.back;
      faults = c.settle.ensures.faults ∙ c.loop-next.invariant.faults;
    }
