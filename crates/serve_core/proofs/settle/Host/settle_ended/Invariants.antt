use Rattle.std.proofs.Common.{◌≡◌, ◌-◌, vec_len}
use Rattle.edge_traits.specs.WhereTold.{WhereTold}
use Rattle.serve_core.specs.Keeping.{KeepsLeft, SameHall, Underway}
use Rattle.edge_traits.specs.Calls.{Store}
use Rattle.serve_core.specs.Tending.{Tended, stand}
use Rattle.serve_core.proofs.settle.Host.settle_ended.Given as goal

abbrev pub invariant-loop-next : goal.invariant-loop-next
invariant-loop-next g l = record {
  kept : Underway g.C.Clock.shows l.shared.hall.now l.shared.clock.now l.self.supply (g.D.Doorway.tale l.door)
      l.self.pass l.self.waiting.items;
  same : SameHall l.fn.self.pass l.self.pass;
  tended : (store : Store)
      → Tended (stand l.fn.self.pass l.fn.self.supply (g.D.Doorway.tale l.fn.door) store)
      (stand l.self.pass l.self.supply (g.D.Doorway.tale l.door) store);
  left : WhereTold (g.D.Doorway.tale l.fn.door) (g.D.Doorway.tale l.door) KeepsLeft;
  faults : g.D.Doorway.faults l.door ≡ g.D.Doorway.faults l.fn.door;
}

abbrev pub decreases-loop-next : goal.decreases-loop-next
decreases-loop-next g l = vec_len l.self.waiting - l.next
