use Rattle.std.proofs.Common.{ℕ, sym, ap, subst}
use Rattle.turn_table.specs.Passes.{Sound}
use Rattle.turn_table.proofs.Keeping.{sound_looked}
use Rattle.turn_table.proofs.turns.Turns.look.Goals as goal

pub invariant_of-pass : goal.invariant_of-pass
invariant_of-pass g c =
    let p = c.pass.inside in
    let e = c.look.ensures in
    subst (λ (n : ℕ). Sound g.S.Served.core n p.number p.splits p.last p.before c.look.new.seat.me)
    (ap (λ z. z.slots) (sym e.same.0))
    (sound_looked g.S.Served.core p.seat.table_id.slots p.number p.splits p.last p.before p.seat.me c.pass.invariant
    c.look.new.seat.me e.looked)
