use Rattle.std.proofs.Common.{◌≡◌, ℕ, ◌+◌, ◌<◌, ◌≤◌, Bool, true, false, cond, List, ◌∷◌, Some, length, drop, get_or, eq-eqb, sym, ap, subst, ◌∙◌}
use Rattle.std.specs.Prelude.{◌==◌}
use Rattle.std.specs.List.{find}
use Rattle.std.proofs.lemmas.Bool.{ne_eqb}
use Rattle.std.proofs.lemmas.List.{at_drop_more, drop_all}
use Rattle.simul_control.specs.declared.place.Place.{Place}
use Rattle.session_core.specs.Memory.{observed_at}
use Rattle.session_core.proofs.session_memory.SessionMemory.observed_at.Goals as goal

-- what is found from a number on, where the place of that number is read
found_from : (desk : ℕ) (rows : List Place) (at : ℕ) (place : Place) (t : Bool) → at < length rows
    → place ≡ get_or rows at place → (place.desk == desk) ≡ t
    → find (λ row. row.desk == desk) (drop at rows)
    ≡ cond t (Some place) (find (λ row. row.desk == desk) (drop (at + 1) rows))
found_from desk rows at place t inside read is =
    let p : Place → Bool = λ row. row.desk == desk in
    let rest = drop (at + 1) rows in
    at_drop_more (find p) rows at place inside
    ∙ ap (λ row. find p (row ∷ rest)) (sym read)
    ∙ ap (λ b. cond b (Some place) (find p rest)) is

pub loop-at-init : goal.loop-at-init
loop-at-init c = ap (observed_at c.args.desk) (sym c.self.view_is)

pub returns-then-from-desk : goal.returns-then-from-desk
returns-then-from-desk c =
    let place = c.place-place.result in
    let rows = c.self.inside.observed.rows in
    let inside = subst (λ n. c.loop-at.at < n) c.len-at-end.ensures.count c.loop-at-test.true in
    sym (c.loop-at.invariant
    ∙ found_from c.args.desk rows c.loop-at.at place true inside (c.place-place.ensures place)
    (eq-eqb place.desk c.args.desk (sym (c.from.ensures ∙ c.get.ensures.value) ∙ c.if-from-desk.true)))

pub loop-at-preserved : goal.loop-at-preserved
loop-at-preserved c =
    let place = c.place-place.result in
    let rows = c.self.inside.observed.rows in
    let inside = subst (λ n. c.loop-at.at < n) c.len-at-end.ensures.count c.loop-at-test.true in
    c.loop-at.invariant
    ∙ found_from c.args.desk rows c.loop-at.at place false inside (c.place-place.ensures place)
    (ne_eqb place.desk c.args.desk (λ same. c.if-from-desk.false (c.from.ensures ∙ c.get.ensures.value ∙ same)))

pub returns : goal.returns
returns c =
    let rows = c.self.inside.observed.rows in
    let past = subst (λ n. n ≤ c.loop-at.at) c.len-at-end.ensures.count c.loop-at-test.false in
    sym (c.loop-at.invariant ∙ ap (find (λ row. row.desk == c.args.desk)) (drop_all c.loop-at.at rows past))
