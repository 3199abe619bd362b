use Rattle.std.proofs.Common.{◌≡◌, take}
use Rattle.steward_core.specs.Clearing.{Cleared}
use Rattle.steward_core.proofs.clearing.clear_each.Given as goal

abbrev pub invariant-loop-row : goal.invariant-loop-row
invariant-loop-row g l = record {
  home : g.R.Runner.home l.runner ≡ g.R.Runner.home l.fn.runner;
  cleared : Cleared l.moment l.end (take l.row-index l.rows) (g.R.Runner.state l.fn.runner) (g.R.Runner.state l.runner);
}
