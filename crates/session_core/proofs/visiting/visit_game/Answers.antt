use Rattle.std.proofs.Common.{◌∷◌, Bool, subst}
use Rattle.session_core.specs.Going.{WentOn}
use Rattle.session_core.specs.Session.{given_up, visits}
use Rattle.session_core.proofs.VisitSteps.{broke_given_up, on_given_up}
use Rattle.session_core.proofs.visiting.visit_game.Goals as goal

pub returns-clause-went : goal.returns-clause-went
returns-clause-went g c = λ rest.
    on_given_up c.args.moment (visits (c.args.visit.now ∷ rest) c.args.memory.now) c.args.visit.now c.in_ok-over.over
    (visits rest c.ask_news.new.memory)
    (g.R.Runner.state c.args.r.now) c.args.memory.now c.args.out.now.items (g.R.Runner.state c.ask_news.new.r)
    c.ask_news.new.memory c.ask_news.new.out.items
    (g.R.Runner.state c.give_up.new.r) (c.in_ok-over.ensures.went rest) c.if-not-over.false c.give_up.result
    (c.give_up.ensures.went (visits rest c.ask_news.new.memory) c.ask_news.new.memory c.ask_news.new.out.items
    c.ask_news.ensures.inside)

pub returns-clause-broke : goal.returns-clause-broke
returns-clause-broke g c = λ rest.
    broke_given_up c.args.moment (visits (c.args.visit.now ∷ rest) c.args.memory.now) c.args.visit.now c.in_ok-over.over
    (visits rest c.ask_news.new.memory)
    (g.R.Runner.state c.args.r.now) c.args.memory.now c.args.out.now.items (g.R.Runner.state c.ask_news.new.r)
    c.ask_news.new.memory c.ask_news.new.out.items
    (g.R.Runner.state c.give_up.new.r) (c.in_ok-over.ensures.went rest) c.if-not-over.false c.give_up.result
    (c.give_up.ensures.broke (visits rest c.ask_news.new.memory) c.ask_news.new.memory)

pub returns-then-not-over-clause-went : goal.returns-then-not-over-clause-went
returns-then-not-over-clause-went g c = λ rest.
    subst (λ (b : Bool).
    WentOn (visits (c.args.visit.now ∷ rest) c.args.memory.now)
    (given_up c.args.visit.now b (visits rest c.ask_news.new.memory)) c.args.moment
    (g.R.Runner.state c.args.r.now) c.args.memory.now c.args.out.now.items (g.R.Runner.state c.ask_news.new.r)
    c.ask_news.new.memory c.ask_news.new.out.items)
    c.if-not-over.true (c.in_ok-over.ensures.went rest)
