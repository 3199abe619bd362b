use Rattle.session_core.specs.Course.{Asks}
use Rattle.session_core.specs.Stages.{continues, course_of}
use Rattle.session_core.proofs.Going.{broke_asked, broke_unasked, on_asked}
use Rattle.session_core.proofs.Remembering.{remembers_kept}
use Rattle.session_core.proofs.follow.ask.Goals as goal

pub returns-clause-went : goal.returns-clause-went
returns-clause-went g c =
    on_asked c.args.moment c.args.act (continues c.args.stage c.args.memory.now) c.run.new.reply c.next.result
    (λ next. course_of next c.next.new.memory)
    (g.R.Runner.state c.args.r.now) c.args.memory.now c.args.out.now.items (g.R.Runner.state c.run.new.self)
    c.next.new.memory c.next.new.out.items c.in_ok-run.ensures.ran c.next.ensures.settles
    (remembers_kept (g.R.Runner.state c.args.r.now).number c.args.moment c.args.act c.run.new.reply c.args.memory.now
    c.args.stage c.next.new.memory c.requires.suits c.next.ensures.after c.next.ensures.inside)

pub returns-clause-broke : goal.returns-clause-broke
returns-clause-broke g c =
    broke_asked c.args.moment c.args.act (continues c.args.stage c.args.memory.now) c.run.new.reply c.next.result
    (g.R.Runner.state c.args.r.now) c.args.memory.now (g.R.Runner.state c.run.new.self) c.next.new.memory
    c.in_ok-run.ensures.ran
    (remembers_kept (g.R.Runner.state c.args.r.now).number c.args.moment c.args.act c.run.new.reply c.args.memory.now
    c.args.stage c.next.new.memory c.requires.suits c.next.ensures.after c.next.ensures.inside)

pub returns-in_err-run-clause-broke : goal.returns-in_err-run-clause-broke
returns-in_err-run-clause-broke g c =
    broke_unasked c.args.moment c.from_residual.result (Asks c.args.act (continues c.args.stage c.args.memory.now))
    (g.R.Runner.state c.args.r.now) c.args.memory.now
    (g.R.Runner.state c.run.new.self) c.in_err-run.ensures.ran
