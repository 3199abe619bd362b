use Rattle.std.proofs.Common.{◌≡◌, ℕ, List, subst}
use Rattle.session_core.specs.Course.{Course}
use Rattle.session_core.specs.Inputs.{input_course}
use Rattle.session_core.specs.Memory.{MemoryState}
use Rattle.session_core.specs.Session.{leaving_course}
use Rattle.session_core.specs.Stages.{Settles, course_of, first_course}
use Rattle.session_core.specs.declared.first.First.{First}
use Rattle.session_core.proofs.Beginning.{answered_going, answered_leaving, broke_begun, broke_going, broke_leaving}
use Rattle.session_core.proofs.Remembering.{remembers_none}
use Rattle.session_core.proofs.taking.take.Goals as goal

-- a course settles in what comes first
settles_by : {course : Course} {out out_now : List ℕ} {one other : First} (memory : MemoryState) → one ≡ other
    → Settles course (first_course one memory) out out_now → Settles course (first_course other memory) out out_now
settles_by {course = course} {out = out} {out_now = out_now} memory is settles =
    subst (λ (f : First). Settles course (first_course f memory) out out_now) is settles

pub returns-in_err-first-clause-so_far : goal.returns-in_err-first-clause-so_far
returns-in_err-first-clause-so_far g c =
    broke_begun c.args.moment (input_course c.args.input c.args.memory.now) (g.R.Runner.state c.args.r.now)
    c.args.memory.now c.begin.new.memory c.session-session.ensures.known (remembers_none c.begin.ensures.told_nothing)

pub returns-in-Leaving-clause-answered : goal.returns-in-Leaving-clause-answered
returns-in-Leaving-clause-answered g c =
    answered_leaving c.args.moment c.leave.result (input_course c.args.input c.args.memory.now)
    (leaving_course c.begin.new.memory) (g.R.Runner.state c.args.r.now) (g.R.Runner.state c.leave.new.r)
    c.args.out.now.items c.begin.new.out.items c.leave.new.memory c.session-session.ensures.known
    (settles_by c.begin.new.memory c.in-Leaving.is c.in_ok-first.ensures.settles)
    c.leave.ensures.left

pub returns-in-Leaving-clause-so_far : goal.returns-in-Leaving-clause-so_far
returns-in-Leaving-clause-so_far g c =
    broke_leaving c.args.moment (input_course c.args.input c.args.memory.now) (g.R.Runner.state c.args.r.now)
    c.args.memory.now c.begin.new.memory c.args.out.now.items c.begin.new.out.items
    (g.R.Runner.state c.leave.new.r) c.leave.new.memory
    (settles_by c.begin.new.memory c.in-Leaving.is c.in_ok-first.ensures.settles)
    c.leave.ensures.part c.leave.ensures.gone

pub returns-in-Going-clause-answered : goal.returns-in-Going-clause-answered
returns-in-Going-clause-answered g c =
    answered_going c.args.moment c.follow.result (input_course c.args.input c.args.memory.now)
    (course_of c.in-Going.next c.begin.new.memory) (g.R.Runner.state c.args.r.now) (g.R.Runner.state c.follow.new.r)
    c.args.out.now.items c.begin.new.out.items c.follow.new.out.items c.follow.new.memory
    c.session-session.ensures.known
    (settles_by c.begin.new.memory c.in-Going.is c.in_ok-first.ensures.settles)
    c.follow.ensures.followed

pub returns-in-Going-clause-so_far : goal.returns-in-Going-clause-so_far
returns-in-Going-clause-so_far g c =
    broke_going c.args.moment (input_course c.args.input c.args.memory.now)
    (course_of c.in-Going.next c.begin.new.memory) (g.R.Runner.state c.args.r.now) c.args.memory.now c.begin.new.memory
    c.args.out.now.items c.begin.new.out.items (g.R.Runner.state c.follow.new.r) c.follow.new.memory
    c.session-session.ensures.known
    (settles_by c.begin.new.memory c.in-Going.is c.in_ok-first.ensures.settles)
    (remembers_none c.begin.ensures.told_nothing)
    c.follow.ensures.so_far
