use Rattle.std.proofs.Common.{◌≡◌, ◌<◌, ℕ, [], sym, ap, subst, ◌∙◌}
use Rattle.std.specs.Mem.Slots.{slots_items}
use Rattle.histories.specs.History.{calls_of, state, Legal}
use Rattle.turn_table.specs.declared.view.Joined.{Joined}
use Rattle.turn_table.specs.Views.{In}
use Rattle.turn_table.specs.Passes.{AllJoined}
use Rattle.turn_table.proofs.Ends.{all_there, parts_back, legal_back}
use Rattle.turn_table.proofs.Passing.{closes}
use Rattle.turn_table.proofs.turns.Turns.close.Goals as goal

pub emptied-requires-clause-there : goal.emptied-requires-clause-there
emptied-requires-clause-there g c =
    let p = c.pass.inside in
    let e = ap (λ s. s.view) c.pass.view_is in
    let r = c.close_with.result in
    all_there
    (closes g.S.Served.core g.S.Served.lawful c.self.inside.table.shared.key.value.items p.seat.id p.seat.me.0
    (slots_items r.words) (slots_items r.slots) c.pass.invariant.0.alive
    (ap (λ v. v.number) e ∙ c.requires.first) (ap (λ v. v.held) e ∙ c.requires.idle)
    (subst AllJoined (sym e) c.requires.all_joined) c.close_with.ensures.values.2)

pub returns : goal.returns
returns g c =
    let p = c.pass.inside in
    let e = ap (λ s. s.view) c.pass.view_is in
    let r = c.close_with.result in
    let closed =
    closes g.S.Served.core g.S.Served.lawful c.self.inside.table.shared.key.value.items p.seat.id p.seat.me.0
    (slots_items r.words) (slots_items r.slots) c.pass.invariant.0.alive
    (ap (λ v. v.number) e ∙ c.requires.first) (ap (λ v. v.held) e ∙ c.requires.idle)
    (subst AllJoined (sym e) c.requires.all_joined) c.close_with.ensures.values.2 in
    record {
      parts = parts_back closed c.emptied.result.items c.emptied.ensures
          ∙ ap (λ v. state g.S.Served.core v.opening v.seen) e;
      legal = subst (λ v. Legal g.S.Served.core v.opening v.seen) e (legal_back closed);
      own = subst (λ v. calls_of 0 v.seen ≡ v.made) e closed.own;
      joined = subst
          (λ v. (j : Joined g.row.S-Act.Denot g.row.S-Reply.Denot) → In j v.joined → calls_of j.number v.seen
          ≡ j.calls)
          e closed.joined;
      no_others = subst (λ v. (m : ℕ) → v.splits < m → calls_of m v.seen ≡ []) e closed.others;
    }
