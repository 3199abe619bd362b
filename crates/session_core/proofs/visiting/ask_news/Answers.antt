use Rattle.std.proofs.Common.{◌∷◌, subst}
use Rattle.one_server.specs.Running.{ServerRan}
use Rattle.one_server.specs.declared.act.Act.{Act}
use Rattle.session_core.specs.Course.{act_at}
use Rattle.session_core.specs.Session.{visits}
use Rattle.session_core.proofs.Going.{broke_unasked}
use Rattle.session_core.proofs.VisitSteps.{broke_news, on_news}
use Rattle.session_core.proofs.visiting.ask_news.Goals as goal

pub returns-clause-went : goal.returns-clause-went
returns-clause-went g c = λ rest.
    let old = g.R.Runner.state c.args.r.now in
    let new = g.R.Runner.state c.run.new.self in
    on_news c.args.visit.now c.args.memory.now rest c.args.moment c.tell_news.result c.run.new.reply old
    c.args.out.now.items
    new c.tell_news.new.memory c.tell_news.new.out.items
    (subst (λ (a : Act). ServerRan old (act_at c.args.moment a) c.run.new.reply new) c.fetch_at-act.ensures.value
    c.in_ok-run.ensures.ran)
    c.tell_news.ensures.over c.tell_news.ensures.text c.tell_news.ensures.after c.requires

pub returns-clause-broke : goal.returns-clause-broke
returns-clause-broke g c = λ rest.
    let old = g.R.Runner.state c.args.r.now in
    let new = g.R.Runner.state c.run.new.self in
    broke_news c.args.visit.now c.args.memory.now rest c.args.moment c.tell_news.result c.run.new.reply old new
    c.tell_news.new.memory
    (subst (λ (a : Act). ServerRan old (act_at c.args.moment a) c.run.new.reply new) c.fetch_at-act.ensures.value
    c.in_ok-run.ensures.ran)
    c.tell_news.ensures.after c.requires

pub returns-in_err-run-clause-broke : goal.returns-in_err-run-clause-broke
returns-in_err-run-clause-broke g c = λ rest.
    broke_unasked c.args.moment c.from_residual.result (visits (c.args.visit.now ∷ rest) c.args.memory.now)
    (g.R.Runner.state c.args.r.now) c.args.memory.now
    (g.R.Runner.state c.run.new.self) c.in_err-run.ensures.ran
