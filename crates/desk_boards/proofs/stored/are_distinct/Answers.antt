use Rattle.std.proofs.Common.{◌≡◌, List, ◌∷◌, bytes_eq, map, ℕ, false, refl, sym, subst, ◌∙◌}
use Rattle.std.specs.List.{IsDistinct, list_any}
use Rattle.fics_words.specs.Handle.{key_of}
use Rattle.desk_boards.proofs.Distinct.{distinct_first, distinct_none, distinct_rest}
use Rattle.desk_boards.proofs.stored.are_distinct.Goals as goal

-- the names are distinct
abbrev Distinct : List (List ℕ) → Type 0
Distinct names = IsDistinct bytes_eq (map key_of names)

pub returns-then-has_name : goal.returns-then-has_name
returns-then-has_name c =
    let whole : c.loop-name.rest.now ≡ c.in-Some.name.now ∷ c.in-Some.others.now = c.in-Some.ensures.cases.0 in (
      λ e. absurd cc,
      λ d.
          let first =
          distinct_first c.in-Some.name.now c.in-Some.others.now (subst Distinct whole (c.loop-name.invariant.1 d)) in
          sym first ∙ sym c.has_name.ensures ∙ c.if-has_name.true,
    )

pub loop-name-preserved : goal.loop-name-preserved
loop-name-preserved c =
    let whole : c.loop-name.rest.now ≡ c.in-Some.name.now ∷ c.in-Some.others.now = c.in-Some.ensures.cases.0 in
    let none : list_any (λ other. bytes_eq (key_of c.in-Some.name.now) (key_of other)) c.in-Some.others.now ≡ false =
    sym c.has_name.ensures ∙ c.if-has_name.false in
    let rest = distinct_rest c.in-Some.name.now c.in-Some.others.now none in (
      λ d. c.loop-name.invariant.0 (subst Distinct (sym whole) (rest.0 d)),
      λ d. rest.1 (subst Distinct whole (c.loop-name.invariant.1 d)),
    )

pub returns : goal.returns
returns c = (λ e. c.loop-name.invariant.0 (distinct_none c.loop-name.rest.now c.in_default.ensures.cases), λ d. refl)
