use Rattle.std.proofs.Common.{◌≡◌, ◌≤◌, ◌++◌, take}
use Rattle.lobby_store.specs.Carrying.{Carries, calls_for}
use Rattle.lobby_store.proofs.carrying.carry_out.Given as goal

abbrev pub invariant-loop-order : goal.invariant-loop-order
invariant-loop-order g l = record {
  count : l.count ≡ l.order-index;
  carried : Carries (g.P.Keeper.table l.fn.keeper) (g.P.Keeper.table l.keeper) (take l.order-index l.orders);
  calls : g.P.Keeper.calls l.keeper ≡ g.P.Keeper.calls l.fn.keeper ++ calls_for (take l.order-index l.orders);
  counted : g.P.Keeper.faults l.fn.keeper ≤ g.P.Keeper.faults l.keeper;
}
