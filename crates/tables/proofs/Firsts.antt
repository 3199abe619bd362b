-- For callers: the first item that passes a test, whether there is one, and a change of it.
use Rattle.std.proofs.Common.{◌≡◌, ◌||◌, Bool, true, false, cond, List, [], ◌∷◌, None, Some, Result, Ok, Err, OnErr, length, suc, is_some, refl, sym, ap, ◌∙◌}
use Rattle.std.specs.List.{find, list_any}
use Rattle.std.proofs.lemmas.Option.{none-some}
use Rattle.tables.specs.Rows.{change_first}
use Rattle.collections.proofs.Tests.{none_found}

pub on_err : {T E Y : Type 0} (r : Result T E) → Y → OnErr r Y
on_err (Ok x) y = tt
on_err (Err e) y = y

-- there is a first one exactly if one passes
pub is_some-find : {X : Type 0} (p : X → Bool) (xs : List X) → is_some (find p xs) ≡ list_any p xs
is_some-find p [] = refl
is_some-find p (x ∷ xs) =
    elim (p x) as (λ t. is_some (cond t (Some x) (find p xs)) ≡ (t || list_any p xs)) [
      | true ↦ refl
      | false ↦ is_some-find p xs
    ]

-- and where none passes there is none
pub find-absent : {X : Type 0} (p : X → Bool) (xs : List X) → list_any p xs ≡ false → find p xs ≡ None
find-absent p xs absent = none_found (find p xs) (find p xs) refl (is_some-find p xs ∙ absent)

-- as many items as before
pub length-change_first : {X : Type 0} (p : X → Bool) (f : X → X) (xs : List X)
    → length (change_first p f xs) ≡ length xs
length-change_first p f [] = refl
length-change_first p f (x ∷ xs) =
    elim (p x) as (λ t. length (cond t (f x ∷ xs) (x ∷ change_first p f xs)) ≡ suc (length xs)) [
      | true ↦ refl
      | false ↦ ap suc (length-change_first p f xs)
    ]

-- where no item passes, none is changed
pub change_first-none : {X : Type 0} (test : X → Bool) (f : X → X) (xs : List X) → find test xs ≡ None
    → change_first test f xs ≡ xs
change_first-none test f [] none = refl
change_first-none test f (x ∷ xs) none =
    elim (test x)
    as (λ t. cond t (Some x) (find test xs) ≡ None → cond t (f x ∷ xs) (x ∷ change_first test f xs) ≡ x ∷ xs) [
      | true ↦ λ h. absurd (none-some _ (sym h))
      | false ↦ λ h. ap (λ l. x ∷ l) (change_first-none test f xs h)
    ] none
