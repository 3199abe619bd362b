use Rattle.std.proofs.Common.{◌≡◌, ◌≤◌, ◌*◌}
use Rattle.edge_traits.specs.Calls.{store_of}
use Rattle.one_server.specs.Running.{IsKnown}
use Rattle.steward_core.specs.Agreement.{StaysAgreed}
use Rattle.steward_core.proofs.OrdersSaved.{HasSaved}
use Rattle.steward_core.proofs.saving.save_orders.Given as goal

abbrev pub invariant-loop-answer : goal.invariant-loop-answer
invariant-loop-answer g l = record {
  home : g.R.Runner.home l.runner ≡ g.R.Runner.home l.fn.runner;
  known : IsKnown (g.R.Runner.state l.runner);
  count : l.count ≡ l.answer * 16;
  saved : HasSaved l.moment l.answer (store_of g.P.Keeper.table g.P.Keeper.faults g.P.Keeper.calls l.fn.keeper)
      (store_of g.P.Keeper.table g.P.Keeper.faults g.P.Keeper.calls l.keeper) (g.R.Runner.state l.fn.runner)
      (g.R.Runner.state l.runner);
  agreed : StaysAgreed (g.P.Keeper.table l.fn.keeper) (g.P.Keeper.table l.keeper) (g.R.Runner.state l.fn.runner)
      (g.R.Runner.state l.runner);
  counted : g.P.Keeper.faults l.fn.keeper ≤ g.P.Keeper.faults l.keeper;
}
