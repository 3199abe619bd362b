use Rattle.std.proofs.Common.{ℕ, arith, sym, ap, subst, ◌∙◌}
use Rattle.turn_table.specs.Views.{In, Holds}
use Rattle.turn_table.specs.Passes.{Sound}
use Rattle.turn_table.proofs.Keeping.{sound_busy, sound_took}
use Rattle.turn_table.proofs.turns.Turns.try_take.Goals as goal

pub try_take-requires-clause-there : goal.try_take-requires-clause-there
try_take-requires-clause-there g c =
    let may = subst (λ v. In c.args.part v.may) (sym (ap (λ s. s.view) c.pass.view_is)) c.requires.may in
    let h = c.pass.invariant.0.may_there c.args.part may in
    let here = ap (λ s. s.home) c.pass.view_is ∙ (c.requires.here ∙ sym c.self.view_is) in
    let k = ap (λ z. z.slots) here in
    omega (arith, h, k)

pub invariant_of-pass : goal.invariant_of-pass
invariant_of-pass g c =
    let p = c.pass.inside in
    let e = c.in_err-value.ensures in
    subst (λ (n : ℕ). Sound g.S.Served.core n p.number p.splits p.last p.before c.try_take.new.seat.me)
    (ap (λ z. z.slots) (sym e.same.0))
    (sound_busy g.S.Served.core p.seat.table_id.slots p.number p.splits p.last p.before p.seat.me c.pass.invariant
    c.args.part c.try_take.new.seat.me e.taken)

pub invariant_of-pass-2 : goal.invariant_of-pass-2
invariant_of-pass-2 g c =
    let p = c.pass.inside in
    let e = c.in_ok-value.ensures in
    let v = sym (ap (λ s. s.view) c.pass.view_is) in
    let may = subst (λ v. In c.args.part v.may) v c.requires.may in
    let not_held = subst (λ v. Holds v c.args.part → ⊥) v c.requires.not_held in
    subst (λ (n : ℕ). Sound g.S.Served.core n p.number p.splits c.args.part p.last c.try_take.new.seat.me)
    (ap (λ z. z.slots) (sym e.same.0))
    (sound_took g.S.Served.core p.seat.table_id.slots p.number p.splits p.last p.before p.seat.me c.pass.invariant
    c.args.part c.in_ok-value.value c.try_take.new.seat.me may not_held e.taken)
