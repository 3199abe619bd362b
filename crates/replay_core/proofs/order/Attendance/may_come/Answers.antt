use Rattle.std.proofs.Common.{arith, sym, ◌∙◌}
use Rattle.std.proofs.lemmas.Bool.{not-true, not_from_false}
use Rattle.replay_core.specs.declared.order.Presence.TheVariants.{Away, Here}
use Rattle.replay_core.proofs.Presences.{presence_at, may_connect, may_go_on}
use Rattle.replay_core.proofs.order.Attendance.may_come.Goals as goal

-- the moment would fall
pub returns-then-line-self : goal.returns-then-line-self
returns-then-line-self c seats lines after = (
  λ f. absurd cc,
  λ may.
      let kept = (after.moment c.args.line.now.moment).1 may.moment in
      absurd (omega (arith, kept, c.if-line-self.true)),
)

-- it has to connect
pub returns-in-Away : goal.returns-in-Away
returns-in-Away c seats lines after =
    let progress = c.args.self.now in
    let line = c.args.line.now in
    let away =
    presence_at progress seats lines line.session Away Away after c.requires.first c.requires.last c.in-Away.is in
    let may = may_connect progress seats lines line after c.if-line-self.false away in
    (λ yes. may.0 (sym c.connects.ensures ∙ yes), λ h. c.connects.ensures ∙ may.1 h)

-- it mustn't connect again
pub returns-in-Here : goal.returns-in-Here
returns-in-Here c seats lines after =
    let progress = c.args.self.now in
    let line = c.args.line.now in
    let here =
    presence_at progress seats lines line.session Away Here after c.requires.first c.requires.last c.in-Here.is in
    let may = may_go_on progress seats lines line after c.if-line-self.false here in (
      λ yes. may.0 (sym c.connects-in-Here.ensures ∙ not-true c.connects-in-Here.result yes),
      λ h. not_from_false c.connects-in-Here.result (c.connects-in-Here.ensures ∙ may.1 h),
    )
