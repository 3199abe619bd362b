use Rattle.std.proofs.Common.{◌≡◌, [], refl, ap, sym, subst, ◌∙◌}
use Rattle.session_core.specs.Course.{Course, Asks}
use Rattle.session_core.specs.Going.{Passed, Went}
use Rattle.session_core.specs.Session.{leaving_course}
use Rattle.session_core.specs.Stages.{HasGone, MayLeave, leaves, leaving_of}
use Rattle.session_core.specs.declared.leaving_stage.LeavingNext.{LeavingNext}
use Rattle.session_core.proofs.Going.{left, went_both, went_none}
use Rattle.session_core.proofs.Passing.{passed_after, passed_end, passed_none}
use Rattle.session_core.proofs.leaving.leave.Goals as goal

pub loop-next-init : goal.loop-next-init
loop-next-init g c =
    let old = g.R.Runner.state c.args.r.now in
    let is : leaving_course c.args.memory.now ≡ leaving_of c.ask_going-next.result c.args.memory.now =
    sym (ap (λ (n : LeavingNext). leaving_of n c.args.memory.now) c.ask_going-next.ensures) in
    record {
      ready = subst MayLeave (sym c.ask_going-next.ensures) tt;
      home = refl;
      gone = subst (λ (n : LeavingNext). HasGone n c.args.memory.now) (sym c.ask_going-next.ensures) tt;
      went =
          subst (λ (x : Course). Went (leaving_course c.args.memory.now) x c.args.moment old [] old []) is
          (went_none c.args.moment (leaving_course c.args.memory.now) old [] c.session-session.ensures.known);
      passed =
          subst (λ (x : Course). Passed (leaving_course c.args.memory.now) x c.args.moment old old) is
          (passed_none c.args.moment (leaving_course c.args.memory.now) old c.session-session.ensures.known);
    }

pub returns-in-End-clause-left : goal.returns-in-End-clause-left
returns-in-End-clause-left g c =
    left c.args.moment c.loop-next.all (leaving_course c.args.memory.now)
    (leaving_of c.loop-next.next c.loop-next.memory) c.loop-next.memory
    (g.R.Runner.state c.args.r.now) (g.R.Runner.state c.loop-next.r) c.loop-next.invariant.went
    (ap (λ (n : LeavingNext). leaving_of n c.loop-next.memory) c.in-End.is)

pub returns-in-End-clause-part : goal.returns-in-End-clause-part
returns-in-End-clause-part g c =
    passed_end c.args.moment (leaving_course c.args.memory.now) (leaving_of c.loop-next.next c.loop-next.memory)
    c.loop-next.memory
    (g.R.Runner.state c.args.r.now) (g.R.Runner.state c.loop-next.r) c.loop-next.invariant.passed
    (ap (λ (n : LeavingNext). leaving_of n c.loop-next.memory) c.in-End.is)

pub returns-in-End-clause-gone : goal.returns-in-End-clause-gone
returns-in-End-clause-gone g c =
    subst (λ (n : LeavingNext). HasGone n c.loop-next.memory) c.in-End.is c.loop-next.invariant.gone

pub loop-next-preserved : goal.loop-next-preserved
loop-next-preserved g c =
    let start = leaving_course c.args.memory.now in
    let here = leaving_of c.loop-next.next c.loop-next.memory in
    let asks = Asks c.in-Ask.act (leaves c.in-Ask.stage c.loop-next.memory) in
    let next = leaving_of c.ask_or_pass-done.result.1 c.ask_or_pass-done.new.memory in
    let old = g.R.Runner.state c.args.r.now in
    let mid = g.R.Runner.state c.loop-next.r in
    let new = g.R.Runner.state c.ask_or_pass-done.new.r in
    let is : here ≡ asks = ap (λ (n : LeavingNext). leaving_of n c.loop-next.memory) c.in-Ask.is in
    record {
      ready = c.ask_or_pass-done.ensures.ready;
      home = c.ask_or_pass-done.ensures.home ∙ c.loop-next.invariant.home;
      gone = c.ask_or_pass-done.ensures.gone;
      went =
          went_both c.args.moment c.loop-next.all c.ask_or_pass-done.result.0 c.and-all.result start here asks next old
          mid new c.and-all.ensures
          c.loop-next.invariant.went is c.ask_or_pass-done.ensures.went;
      passed =
          passed_after c.args.moment start here asks next old mid new c.loop-next.invariant.passed is
          c.ask_or_pass-done.ensures.passed;
    }
