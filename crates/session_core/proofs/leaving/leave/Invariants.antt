use Rattle.std.proofs.Common.{◌≡◌, [], OnOk}
use Rattle.session_core.specs.Going.{Passed, Went}
use Rattle.session_core.specs.Session.{leaving_course}
use Rattle.session_core.specs.Stages.{HasGone, MayLeave, acts_to_leave, leaving_of}
use Rattle.session_core.proofs.leaving.leave.Given as goal

abbrev pub invariant-loop-next : goal.invariant-loop-next
invariant-loop-next g l = record {
  ready : MayLeave l.next;
  home : g.R.Runner.home l.r ≡ g.R.Runner.home l.fn.r;
  went : OnOk l.all
      (Went (leaving_course l.fn.memory) (leaving_of l.next l.memory) l.moment (g.R.Runner.state l.fn.r) []
      (g.R.Runner.state l.r) []);
  gone : HasGone l.next l.memory;
  passed : Passed (leaving_course l.fn.memory) (leaving_of l.next l.memory) l.moment (g.R.Runner.state l.fn.r)
      (g.R.Runner.state l.r);
}

abbrev pub decreases-loop-next : goal.decreases-loop-next
decreases-loop-next g l = acts_to_leave l.next
