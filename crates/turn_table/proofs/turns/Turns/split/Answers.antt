use Rattle.std.proofs.Common.{◌+◌, ℕ, refl, arith, sym, ap, subst, ◌∙◌}
use Rattle.turn_table.specs.Passes.{Sound}
use Rattle.turn_table.proofs.Passing.{splits}
use Rattle.turn_table.proofs.Keeping.{sound_divided}
use Rattle.turn_table.proofs.turns.Turns.split.Goals as goal

pub split_seat-seat-requires : goal.split_seat-seat-requires
split_seat-seat-requires g c =
    let p = c.pass.inside in
    let here = ap (λ s. s.home) c.pass.view_is ∙ (c.requires.here ∙ sym c.self.view_is) in (
      here,
      omega (arith, c.self.invariant.0),
      splits g.S.Served.core g.S.Served.lawful c.self.inside.table.shared.key.value.items p.seat.id p.seat.me.0
          c.pass.invariant.0.alive (ap (λ s. s.view.number) c.pass.view_is ∙ c.requires.first),
    )

pub invariant_of-pass : goal.invariant_of-pass
invariant_of-pass g c =
    let p = c.pass.inside in
    let e = c.split_seat-seat.ensures in
    subst (λ (n : ℕ). Sound g.S.Served.core n p.number (p.splits + 1) p.last p.before c.split_seat-seat.new.seat.me)
    (ap (λ z. z.slots) (sym e.0))
    (subst (λ me. Sound g.S.Served.core p.seat.table_id.slots p.number (p.splits + 1) p.last p.before me) (sym e.2)
    (sound_divided g.S.Served.core p.seat.table_id.slots p.number p.splits p.last p.before p.seat.me c.pass.invariant
    (p.splits + 1) refl))
