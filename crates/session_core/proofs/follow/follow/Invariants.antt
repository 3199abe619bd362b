use Rattle.std.proofs.Common.{◌≡◌}
use Rattle.session_core.specs.Going.{WentOn}
use Rattle.session_core.specs.Stages.{IsPosed, acts_left, course_of}
use Rattle.session_core.proofs.follow.follow.Given as goal

abbrev pub invariant-loop-next : goal.invariant-loop-next
invariant-loop-next g l = record {
  ready : IsPosed l.memory l.next;
  home : g.R.Runner.home l.r ≡ g.R.Runner.home l.fn.r;
  went : WentOn (course_of l.fn.first l.fn.memory) (course_of l.next l.memory) l.moment (g.R.Runner.state l.fn.r)
      l.fn.memory l.fn.out.items (g.R.Runner.state l.r) l.memory l.out.items;
}

abbrev pub decreases-loop-next : goal.decreases-loop-next
decreases-loop-next g l = acts_left l.next
