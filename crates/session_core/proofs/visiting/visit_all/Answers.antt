use Rattle.std.proofs.Common.{List, ◌∷◌, refl, ap, sym, subst, ◌∙◌}
use Rattle.session_core.specs.Going.{WentOn}
use Rattle.session_core.specs.Session.{rounding, visits}
use Rattle.session_asks.specs.declared.visit.Visit.{Visit}
use Rattle.session_core.proofs.Going.{broke_after, broke_there, followed, on_after, on_none}
use Rattle.session_core.proofs.visiting.visit_all.Goals as goal

pub loop-visit-init : goal.loop-visit-init
loop-visit-init g c =
    let old = g.R.Runner.state c.args.r.now in
    let memory = c.args.memory.now in
    let out = c.args.out.now.items in
    record {
      home = refl;
      inside = c.requires.inside;
      went =
          subst (λ (games : List Visit).
          WentOn (rounding memory) (visits games memory) c.args.moment old memory out old memory out)
          (sym c.visits-rest.ensures.visits)
          (on_none c.args.moment (rounding memory) old memory out c.session-session.ensures.known);
    }

pub loop-visit-preserved : goal.loop-visit-preserved
loop-visit-preserved g c = record {
  home = c.visit_game.ensures.home ∙ c.loop-visit.invariant.home;
  inside = c.visit_game.ensures.inside;
  went =
      on_after c.args.moment (rounding c.args.memory.now) (visits c.loop-visit.rest c.loop-visit.memory)
      (visits (c.in-Some.visit ∷ c.pop.new.self) c.loop-visit.memory) (visits c.pop.new.self c.visit_game.new.memory)
      (g.R.Runner.state c.args.r.now) c.args.memory.now c.args.out.now.items (g.R.Runner.state c.loop-visit.r)
      c.loop-visit.memory c.loop-visit.out.items
      (g.R.Runner.state c.visit_game.new.r) c.visit_game.new.memory c.visit_game.new.out.items
      c.loop-visit.invariant.went
      (ap (λ (games : List Visit). visits games c.loop-visit.memory) c.in-Some.ensures.first)
      (c.in_ok-visit_game.ensures.went c.pop.new.self);
}

pub returns-in_err-visit_game-clause-so_far : goal.returns-in_err-visit_game-clause-so_far
returns-in_err-visit_game-clause-so_far g c =
    broke_after c.args.moment (rounding c.args.memory.now) (visits c.loop-visit.rest c.loop-visit.memory)
    (visits (c.in-Some.visit ∷ c.pop.new.self) c.loop-visit.memory)
    (g.R.Runner.state c.args.r.now) c.args.memory.now c.args.out.now.items (g.R.Runner.state c.loop-visit.r)
    c.loop-visit.memory c.loop-visit.out.items
    (g.R.Runner.state c.visit_game.new.r) c.visit_game.new.memory
    c.loop-visit.invariant.went (ap (λ (games : List Visit). visits games c.loop-visit.memory) c.in-Some.ensures.first)
    (c.in_err-visit_game.ensures.broke c.pop.new.self)

pub returns-clause-followed : goal.returns-clause-followed
returns-clause-followed g c =
    followed c.args.moment (rounding c.args.memory.now) (visits c.loop-visit.rest c.loop-visit.memory)
    c.loop-visit.memory
    (g.R.Runner.state c.args.r.now) (g.R.Runner.state c.loop-visit.r) c.args.out.now.items c.loop-visit.out.items
    c.loop-visit.invariant.went.went
    (ap (λ (games : List Visit). visits games c.loop-visit.memory) c.in_default.ensures.first)

pub returns-clause-so_far : goal.returns-clause-so_far
returns-clause-so_far g c =
    broke_there c.args.moment (rounding c.args.memory.now) (visits c.loop-visit.rest c.loop-visit.memory)
    (g.R.Runner.state c.args.r.now) c.args.memory.now c.args.out.now.items (g.R.Runner.state c.loop-visit.r)
    c.loop-visit.memory c.loop-visit.out.items c.loop-visit.invariant.went
