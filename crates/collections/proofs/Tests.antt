-- Tests that no item passes, and searches that find none.
use Rattle.std.proofs.Common.{◌≡◌, Bool, false, List, [], ◌∷◌, Option, None, Some, is_some, true≢false, refl, sym}
use Rattle.std.specs.List.{filter, list_any}
use Rattle.std.proofs.lemmas.Bool.{cond_both, or_from, or_parts}

-- no item that is kept passes it either
pub list_any-filter : {X : Type 0} (p q : X → Bool) (xs : List X) → list_any p xs ≡ false
    → list_any p (filter q xs) ≡ false
list_any-filter p q [] none = refl
list_any-filter p q (x ∷ xs) none =
    let both = or_parts (p x) (list_any p xs) none in
    cond_both (q x) (x ∷ filter q xs) (filter q xs) (λ zs. list_any p zs ≡ false)
    (λ _. or_from (p x) (list_any p (filter q xs)) both.0 (list_any-filter p q xs both.1))
    (λ _. list_any-filter p q xs both.1)

-- a search that found nothing
pub none_found : {X : Type 0} (found there : Option X) → found ≡ there → is_some found ≡ false → there ≡ None
none_found None there e none = sym e
none_found (Some x) there e none = absurd (true≢false none)
