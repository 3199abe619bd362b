use Rattle.std.proofs.Common.{refl, ap, subst, ◌∙◌}
use Rattle.session_core.specs.Course.{Asks}
use Rattle.session_core.specs.Session.{rounding}
use Rattle.session_core.specs.Stages.{IsPosed, continues, course_of}
use Rattle.session_core.specs.declared.next.Next.{Next}
use Rattle.session_core.proofs.Going.{answered_next, broke_after, broke_there, followed, on_after, on_none}
use Rattle.session_core.proofs.follow.follow.Goals as goal

pub loop-next-init : goal.loop-next-init
loop-next-init g c = record {
  ready = c.requires.ready;
  home = refl;
  went =
      on_none c.args.moment (course_of c.args.first c.args.memory.now) (g.R.Runner.state c.args.r.now) c.args.memory.now
      c.args.out.now.items c.session-session.ensures.known;
}

pub returns-in-End-clause-followed : goal.returns-in-End-clause-followed
returns-in-End-clause-followed g c =
    followed c.args.moment (course_of c.args.first c.args.memory.now) (course_of c.loop-next.next c.loop-next.memory)
    c.loop-next.memory
    (g.R.Runner.state c.args.r.now) (g.R.Runner.state c.loop-next.r) c.args.out.now.items c.loop-next.out.items
    c.loop-next.invariant.went.went
    (ap (λ (n : Next). course_of n c.loop-next.memory) c.in-End.is)

pub returns-in-End-clause-so_far : goal.returns-in-End-clause-so_far
returns-in-End-clause-so_far g c =
    broke_there c.args.moment (course_of c.args.first c.args.memory.now) (course_of c.loop-next.next c.loop-next.memory)
    (g.R.Runner.state c.args.r.now) c.args.memory.now c.args.out.now.items (g.R.Runner.state c.loop-next.r)
    c.loop-next.memory c.loop-next.out.items c.loop-next.invariant.went

pub visit_all-requires : goal.visit_all-requires
visit_all-requires g c =
    record { inside = subst (IsPosed c.loop-next.memory) c.in-Visits.is c.loop-next.invariant.ready }

pub returns-in-Visits-clause-followed : goal.returns-in-Visits-clause-followed
returns-in-Visits-clause-followed g c =
    answered_next c.args.moment c.visit_all.result (course_of c.args.first c.args.memory.now)
    (course_of c.loop-next.next c.loop-next.memory) (rounding c.loop-next.memory)
    (g.R.Runner.state c.args.r.now) (g.R.Runner.state c.loop-next.r) (g.R.Runner.state c.visit_all.new.r)
    c.args.out.now.items c.loop-next.out.items c.visit_all.new.out.items c.visit_all.new.memory
    c.loop-next.invariant.went.went (ap (λ (n : Next). course_of n c.loop-next.memory) c.in-Visits.is)
    c.visit_all.ensures.followed

pub returns-in-Visits-clause-so_far : goal.returns-in-Visits-clause-so_far
returns-in-Visits-clause-so_far g c =
    broke_after c.args.moment (course_of c.args.first c.args.memory.now) (course_of c.loop-next.next c.loop-next.memory)
    (rounding c.loop-next.memory)
    (g.R.Runner.state c.args.r.now) c.args.memory.now c.args.out.now.items (g.R.Runner.state c.loop-next.r)
    c.loop-next.memory c.loop-next.out.items
    (g.R.Runner.state c.visit_all.new.r) c.visit_all.new.memory c.loop-next.invariant.went
    (ap (λ (n : Next). course_of n c.loop-next.memory) c.in-Visits.is) c.visit_all.ensures.so_far

pub returns-in_err-next-in-Ask-clause-so_far : goal.returns-in_err-next-in-Ask-clause-so_far
returns-in_err-next-in-Ask-clause-so_far g c =
    broke_after c.args.moment (course_of c.args.first c.args.memory.now) (course_of c.loop-next.next c.loop-next.memory)
    (Asks c.in-Ask.act (continues c.in-Ask.stage c.loop-next.memory)) (g.R.Runner.state c.args.r.now) c.args.memory.now
    c.args.out.now.items
    (g.R.Runner.state c.loop-next.r) c.loop-next.memory c.loop-next.out.items (g.R.Runner.state c.ask.new.r)
    c.ask.new.memory
    c.loop-next.invariant.went (ap (λ (n : Next). course_of n c.loop-next.memory) c.in-Ask.is)
    c.in_err-next-in-Ask.ensures.broke

pub loop-next-preserved : goal.loop-next-preserved
loop-next-preserved g c = record {
  ready = c.in_ok-next-in-Ask.ensures.ready;
  home = c.ask.ensures.home ∙ c.loop-next.invariant.home;
  went =
      on_after c.args.moment (course_of c.args.first c.args.memory.now) (course_of c.loop-next.next c.loop-next.memory)
      (Asks c.in-Ask.act (continues c.in-Ask.stage c.loop-next.memory))
      (course_of c.in_ok-next-in-Ask.next c.ask.new.memory)
      (g.R.Runner.state c.args.r.now) c.args.memory.now c.args.out.now.items (g.R.Runner.state c.loop-next.r)
      c.loop-next.memory c.loop-next.out.items
      (g.R.Runner.state c.ask.new.r) c.ask.new.memory c.ask.new.out.items
      c.loop-next.invariant.went (ap (λ (n : Next). course_of n c.loop-next.memory) c.in-Ask.is)
      c.in_ok-next-in-Ask.ensures.went;
}
