use Rattle.std.proofs.Common.{arith, ◌≡◌, ℕ, ◌<◌, sym, ap, subst, ◌∙◌}
use Rattle.std.specs.declared.option.Option.{Option}
use Rattle.atomic_table.specs.Table.{Me}
use Rattle.atomic_table.specs.Seated.{TableId}
use Rattle.histories.specs.Core.{Core}
use Rattle.turn_table.specs.declared.view.View.{View}
use Rattle.turn_table.specs.Views.{In}
use Rattle.turn_table.specs.Passes.{IsPass, PassStanding}
use Rattle.turn_table.proofs.turns.Turns.rest.Goals as goal

-- a part that the pass may take is one of the table's
part_there : {P A R : Type 0} {c : Core P A R} {last before : ℕ} {me : Me (Option P) (View P A R)} (home at : TableId)
    (s : PassStanding P A R) → IsPass c home.slots last before me → s ≡ record { home = home; view = me.0 }
    → s.home ≡ at → (k : ℕ) → In k s.view.may → k < at.slots
part_there {P} {A} {R} home at s pass is here k may =
    let h = pass.may_there k (subst (λ (z : PassStanding P A R). In k z.view.may) is may) in
    let same : home.slots ≡ at.slots =
    sym (ap (λ (z : PassStanding P A R). z.home.slots) is) ∙ ap (λ (z : TableId). z.slots) here in
    subst (λ n. k < n) same h

pub watch-requires-clause-there : goal.watch-requires-clause-there
watch-requires-clause-there g c =
    let h =
    part_there c.pass.inside.seat.table_id c.self.inside.table.shared.table_id c.args.pass.now c.pass.invariant.0
    (sym c.pass.view_is) (c.requires.here ∙ sym c.self.view_is) c.args.part c.requires.may in
    omega (arith, h, c.self.invariant.0)

pub returns-then-tries-eq0 : goal.returns-then-tries-eq0
returns-then-tries-eq0 g c =
    let h =
    part_there c.pass.inside.seat.table_id c.self.inside.table.shared.table_id c.args.pass.now c.pass.invariant.0
    (sym c.pass.view_is) (c.requires.here ∙ sym c.self.view_is) c.args.part c.requires.may in
    omega (arith, h, c.self.invariant.0, ap (λ z. z.words) c.self.view_is)

pub returns-then-is_none : goal.returns-then-is_none
returns-then-is_none g c =
    let h =
    part_there c.pass.inside.seat.table_id c.self.inside.table.shared.table_id c.args.pass.now c.pass.invariant.0
    (sym c.pass.view_is) (c.requires.here ∙ sym c.self.view_is) c.args.part c.requires.may in
    omega (arith, h, c.self.invariant.0, ap (λ z. z.words) c.self.view_is)

pub returns-else-is_none : goal.returns-else-is_none
returns-else-is_none g c =
    let h =
    part_there c.pass.inside.seat.table_id c.self.inside.table.shared.table_id c.args.pass.now c.pass.invariant.0
    (sym c.pass.view_is) (c.requires.here ∙ sym c.self.view_is) c.args.part c.requires.may in
    omega (arith, h, c.self.invariant.0, ap (λ z. z.words) c.self.view_is)
