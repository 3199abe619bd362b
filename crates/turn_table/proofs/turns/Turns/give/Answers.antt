use Rattle.std.proofs.Common.{ℕ, sym, ap, subst, ◌∙◌}
use Rattle.atomic_table.specs.Table.{rest}
use Rattle.turn_table.specs.Views.{In, given_back}
use Rattle.turn_table.specs.Passes.{Sound}
use Rattle.turn_table.proofs.Keeping.{sound_given}
use Rattle.turn_table.proofs.turns.Turns.give.Goals as goal

pub bring-next-requires-clause-held : goal.bring-next-requires-clause-held
bring-next-requires-clause-held g c κs within = (
  c.args.value,
  subst (λ v. In (c.args.part, c.args.value) v.held) (sym (ap (λ s. s.view) c.pass.view_is)) c.requires.named,
)

pub invariant_of-pass : goal.invariant_of-pass
invariant_of-pass g c =
    let p = c.pass.inside in
    let b = c.bring-next.ensures in
    let e = c.give.ensures in
    let k = c.args.part in
    subst (λ (n : ℕ). Sound g.S.Served.core n p.number p.splits c.bring-next.result p.before c.give.new.seat.me)
    (ap (λ z. z.slots) (sym (e.same.0 ∙ b.same.0)))
    (sound_given g.S.Served.core p.seat.table_id.slots p.number p.splits p.last p.before p.seat.me c.pass.invariant
    c.bring-next.result k c.give.new.seat.me b.next
    (ap (λ m. m.0) e.given ∙ ap (λ m. given_back m.0 k) b.front)
    (ap (λ m. m.1) e.given ∙ ap (λ m. rest m.1) b.front))
