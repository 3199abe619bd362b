use Rattle.std.proofs.Common.{◌≡◌, length, true}
use Rattle.session_core.specs.Going.{WentOn}
use Rattle.session_core.specs.Memory.{has_entered}
use Rattle.session_core.specs.Session.{rounding, visits}
use Rattle.session_core.proofs.visiting.visit_all.Given as goal

abbrev pub invariant-loop-visit : goal.invariant-loop-visit
invariant-loop-visit g l = record {
  home : g.R.Runner.home l.r ≡ g.R.Runner.home l.fn.r;
  inside : has_entered l.memory ≡ true;
  went : WentOn (rounding l.fn.memory) (visits l.rest l.memory) l.moment (g.R.Runner.state l.fn.r) l.fn.memory
      l.fn.out.items (g.R.Runner.state l.r) l.memory l.out.items;
}

abbrev pub decreases-loop-visit : goal.decreases-loop-visit
decreases-loop-visit g l = length l.rest
