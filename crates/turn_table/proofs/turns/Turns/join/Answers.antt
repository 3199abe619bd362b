use Rattle.std.proofs.Common.{ℕ, arith, sym, ap, subst, ◌∙◌}
use Rattle.turn_table.specs.Views.{merged}
use Rattle.turn_table.specs.Plays.{LooksOn}
use Rattle.turn_table.specs.Passes.{Sound}
use Rattle.turn_table.proofs.Passing.{joins}
use Rattle.turn_table.proofs.Keeping.{sound_joined, no_slot}
use Rattle.turn_table.proofs.turns.Turns.join.Goals as goal

pub join_seat-requires : goal.join_seat-requires
join_seat-requires g c =
    let p = c.pass.inside in
    let q = c.other.inside in
    let here = ap (λ s. s.home) c.pass.view_is ∙ (c.requires.here.0 ∙ sym c.self.view_is) in
    let other_here = ap (λ s. s.home) c.other.view_is ∙ (c.requires.here.1 ∙ sym c.self.view_is) in
    let idle = ap (λ s. s.view.held) c.pass.view_is ∙ c.requires.idle in
    let other_idle = ap (λ s. s.view.held) c.other.view_is ∙ c.requires.other_idle in (
      here,
      other_here,
      no_slot g.S.Served.core q.seat.table_id.slots q.number q.splits q.last q.before q.seat.me c.other.invariant
          other_idle,
      omega (arith, c.self.invariant.0),
      joins g.S.Served.core g.S.Served.lawful c.self.inside.table.shared.key.value.items p.seat.id p.seat.me.0 q.seat.id
          q.seat.me.0 c.pass.invariant.0.alive c.other.invariant.0.alive idle other_idle,
    )

pub invariant_of-pass : goal.invariant_of-pass
invariant_of-pass g c =
    let p = c.pass.inside in
    let w = c.other.inside.seat.me.0 in
    let e = c.join_seat.ensures in
    let m' = c.look.new.seat.me in
    let told : LooksOn g.S.Served.core (merged p.seat.me.0 w, p.seat.me.1) m' =
    subst (λ me. LooksOn g.S.Served.core me m') e.2 c.look.ensures.looked in
    subst (λ (n : ℕ). Sound g.S.Served.core n p.number p.splits p.last p.before m')
    (ap (λ z. z.slots) (sym (c.look.ensures.same.0 ∙ e.0)))
    (sound_joined g.S.Served.core p.seat.table_id.slots p.number p.splits p.last p.before p.seat.me c.pass.invariant w
    m' told)
