use Rattle.std.proofs.Common.{◌≡◌, suc, Some, sym, ap, subst, ◌∙◌}
use Rattle.std.specs.List.{slice_get}
use Rattle.histories.specs.History.{state}
use Rattle.turn_table.specs.Views.{In, Holds, Looks, taken_out, tried}
use Rattle.turn_table.specs.Passes.{busy_more, with_busy}
use Rattle.turn_table.proofs.turns.Turns.take.Goals as goal

pub try_take-requires-clause-may : goal.try_take-requires-clause-may
try_take-requires-clause-may g c κs within = subst (λ v. In c.args.part v.may) (sym c.loop.invariant.3.1) c.requires.may

pub try_take-requires-clause-not_held : goal.try_take-requires-clause-not_held
try_take-requires-clause-not_held g c κs within =
    subst (λ v. Holds v c.args.part → ⊥) (sym c.loop.invariant.3.1) c.requires.not_held

pub returns-in-Some-try_take-clause-taken : goal.returns-in-Some-try_take-clause-taken
returns-in-Some-try_take-clause-taken g c =
    let i = c.loop.invariant.3 in
    let v = c.args.pass.now.view in
    let w = c.try_take.new.pass.view in
    let bs = busy_more i.0 c.args.part v.busy in
    let p = c.in-Some-try_take.value in
    let e : w ≡ with_busy bs (taken_out g.S.Served.core v c.args.part p w.seen) =
    c.in-Some-try_take.ensures.taken ∙ ap (λ u. taken_out g.S.Served.core u c.args.part p w.seen) i.1 in
    e ∙ ap (λ ks. with_busy ks (taken_out g.S.Served.core v c.args.part p w.seen)) (sym (ap (λ u. u.busy) e))

pub returns-in-Some-try_take-clause-tries : goal.returns-in-Some-try_take-clause-tries
returns-in-Some-try_take-clause-tries g c =
    let i = c.loop.invariant.3 in
    (i.0, ap (λ u. u.busy) c.in-Some-try_take.ensures.taken ∙ ap (λ u. u.busy) i.1)

pub returns-in-Some-try_take-clause-seen : goal.returns-in-Some-try_take-clause-seen
returns-in-Some-try_take-clause-seen g c =
    let i = c.loop.invariant.3 in
    let seen = c.try_take.new.pass.view.seen in
    let l : Looks g.S.Served.core (with_busy (busy_more i.0 c.args.part c.args.pass.now.view.busy) c.args.pass.now.view)
    seen =
    subst (λ v. Looks g.S.Served.core v seen) i.1 c.in-Some-try_take.ensures.seen in
    record { on = l.on; legal = l.legal; whole = l.whole; own = l.own; joined = l.joined; no_others = l.no_others }

pub returns-in-Some-try_take-clause-value : goal.returns-in-Some-try_take-clause-value
returns-in-Some-try_take-clause-value g c =
    let i = c.loop.invariant.3 in
    let seen = c.try_take.new.pass.view.seen in
    subst (λ xs. slice_get (state g.S.Served.core xs seen) c.args.part ≡ Some c.in-Some-try_take.value)
    (ap (λ v. v.opening) i.1) c.in-Some-try_take.ensures.value

pub loop-preserved : goal.loop-preserved
loop-preserved g c =
    let i = c.loop.invariant in (
      tt,
      tt,
      c.try_take.ensures.here ∙ i.2,
      (suc i.3.0, c.in_default.ensures.busy ∙ ap (λ v. tried v c.args.part) i.3.1),
    )
