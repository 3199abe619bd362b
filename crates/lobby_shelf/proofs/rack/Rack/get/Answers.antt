use Rattle.std.proofs.Common.{◌≡◌, ◌≤◌, None, Some, length, slice_get, sym, ap, subst, ◌∙◌, ltb-true, ltb-false, refl}
use Rattle.std.specs.Option.{option_copied}
use Rattle.lobby_shelf.specs.Numbers.{AreInOrder}
use Rattle.lobby_shelf.proofs.Rising.{FoundAt, found_at}
use Rattle.lobby_shelf.proofs.rack.Rack.get.Goals as goal
use Rattle.std.proofs.lemmas.Option.{slice_get_past, slice_get_read}

pub returns-in_err-row : goal.returns-in_err-row
returns-in_err-row c =
    let rise = subst AreInOrder c.self.view_is c.self.invariant.order in
    let same = c.deref.ensures.value ∙ c.self.view_is in
    let past : length c.deref.result.now ≤ c.place.result = ltb-false _ _ (sym c.in_err-row.ensures.lookup.0) in
    let at : slice_get c.args.self.now c.place.result ≡ None =
    subst (λ l. slice_get l c.place.result ≡ None) same (slice_get_past c.deref.result.now c.place.result past) in
    let found = subst (λ r. FoundAt c.args.number c.args.self.now r) at
    (subst (λ k. FoundAt c.args.number c.args.self.now (slice_get c.args.self.now k)) (sym c.place.ensures.place)
    (found_at c.args.number 0 c.args.self.now rise)) in
    ap (λ r. option_copied r) c.from_residual.ensures ∙ sym found

pub returns-then-row-number : goal.returns-then-row-number
returns-then-row-number c =
    let rise = subst AreInOrder c.self.view_is c.self.invariant.order in
    let same = c.deref.ensures.value ∙ c.self.view_is in
    let lookup = c.in_ok-row.ensures.lookup in
    let at : slice_get c.args.self.now c.place.result ≡ Some c.in_ok-row.row.now =
    subst (λ l. slice_get l c.place.result ≡ Some c.in_ok-row.row.now) same
    (slice_get_read c.deref.result.now (length c.deref.result.now) c.place.result c.in_ok-row.row.now refl
    (ltb-true _ _ (sym lookup.0)) lookup.1) in
    let found = subst (λ r. FoundAt c.args.number c.args.self.now r) at
    (subst (λ k. FoundAt c.args.number c.args.self.now (slice_get c.args.self.now k)) (sym c.place.ensures.place)
    (found_at c.args.number 0 c.args.self.now rise)) in
    sym (found.0 c.if-row-number.true)

pub returns-else-row-number : goal.returns-else-row-number
returns-else-row-number c =
    let rise = subst AreInOrder c.self.view_is c.self.invariant.order in
    let same = c.deref.ensures.value ∙ c.self.view_is in
    let lookup = c.in_ok-row.ensures.lookup in
    let at : slice_get c.args.self.now c.place.result ≡ Some c.in_ok-row.row.now =
    subst (λ l. slice_get l c.place.result ≡ Some c.in_ok-row.row.now) same
    (slice_get_read c.deref.result.now (length c.deref.result.now) c.place.result c.in_ok-row.row.now refl
    (ltb-true _ _ (sym lookup.0)) lookup.1) in
    let found = subst (λ r. FoundAt c.args.number c.args.self.now r) at
    (subst (λ k. FoundAt c.args.number c.args.self.now (slice_get c.args.self.now k)) (sym c.place.ensures.place)
    (found_at c.args.number 0 c.args.self.now rise)) in
    sym (found.1 c.if-row-number.false)
