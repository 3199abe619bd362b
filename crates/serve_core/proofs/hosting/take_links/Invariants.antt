use Rattle.std.proofs.Common.{◌≡◌, ◌≤◌, ◌<◌, ◌^◌}
use Rattle.edge_traits.specs.Door.{KeepsLinks}
use Rattle.edge_traits.specs.WhereTold.{WhereTold}
use Rattle.edge_traits.specs.Calls.{store_of}
use Rattle.serve_core.specs.Keeping.{Underway}
use Rattle.serve_core.specs.Tending.{Tended, stand}
use Rattle.serve_turn.specs.declared.supply.Supply.TheVariants.{Enough}
use Rattle.serve_core.proofs.hosting.take_links.Given as goal

abbrev pub invariant-loop : goal.invariant-loop
invariant-loop g l = record {
  forever : (goal.iterator-loop g).can_next l.iterator' × (goal.iterator-loop g).is_finite l.iterator';
  count : l.host.pass.splits ≡ l.count;
  few : l.count < 2 ^ 31;
  kept : Underway g.C.Clock.shows l.shared.hall.now l.shared.clock.now l.host.supply (g.D.Doorway.tale l.door)
      l.host.pass l.host.waiting.items;
  tended : Tended
      (stand l.fn.pass Enough (g.D.Doorway.tale l.fn.door)
      (store_of g.P.Keeper.table g.P.Keeper.faults g.P.Keeper.calls l.fn.keeper))
      (stand l.host.pass l.host.supply (g.D.Doorway.tale l.door)
      (store_of g.P.Keeper.table g.P.Keeper.faults g.P.Keeper.calls l.keeper));
  opening : l.host.pass.opening ≡ l.fn.pass.opening;
  links : WhereTold (g.D.Doorway.tale l.fn.door) (g.D.Doorway.tale l.door) KeepsLinks;
  counted : g.D.Doorway.faults l.fn.door ≤ g.D.Doorway.faults l.door;
}
