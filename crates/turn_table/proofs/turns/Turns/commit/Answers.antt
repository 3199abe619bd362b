use Rattle.std.proofs.Common.{ℕ, sym, ap, subst}
use Rattle.turn_table.specs.Views.{AllOut}
use Rattle.turn_table.specs.Passes.{Sound, Committed}
use Rattle.turn_table.proofs.Keeping.{sound_done, committed}
use Rattle.turn_table.proofs.turns.Turns.commit.Goals as goal

pub invariant_of-pass : goal.invariant_of-pass
invariant_of-pass g c =
    let p = c.pass.inside in
    let o = c.requires.out in
    let out : AllOut g.S.Served.core p.seat.me.0 o.0 o.1 o.2 =
    subst (λ v. AllOut g.S.Served.core v o.0 o.1 o.2) (sym (ap (λ s. s.view) c.pass.view_is)) o.3 in
    subst (λ (n : ℕ). Sound g.S.Served.core n p.number p.splits p.last p.before c.commit.new.seat.me)
    (ap (λ z. z.slots) (sym c.commit.ensures.same.0))
    (sound_done g.S.Served.core p.seat.table_id.slots p.number p.splits p.last p.before p.seat.me c.pass.invariant o.0
    o.1 o.2 c.commit.new.seat.me (c.commit.ensures.done o.0 o.1 o.2 out))

pub returns-clause-done : goal.returns-clause-done
returns-clause-done g c = λ a p o out.
    let e = ap (λ s. s.view) c.pass.view_is in
    let m = c.pass.inside.seat.me in
    let m' = c.commit.new.seat.me in
    let told = c.commit.ensures.done a p o (subst (λ v. AllOut g.S.Served.core v a p o) (sym e) out) in
    subst (λ v. Committed g.S.Served.core v a p o m'.0) e (committed g.S.Served.core m a p o m' told)
