-- What a search finds.
use Rattle.std.proofs.Common.{◌≡◌, Bool, true, false, cond, List, [], ◌∷◌, Some, refl}
use Rattle.std.specs.Prelude.{All, IfSome}
use Rattle.std.specs.List.{find}
use Rattle.std.proofs.lemmas.List.Elements.{All-head, All-tail}

-- it passes the test
pub found_so : {X : Type 0} (q : X → Bool) (xs : List X) → IfSome (find q xs) (λ x. q x ≡ true)
found_so q [] = tt
found_so q (x ∷ xs) =
    elim (q x) as (λ t. q x ≡ t → IfSome (cond t (Some x) (find q xs)) (λ z. q z ≡ true)) [
      | true ↦ λ is. is
      | false ↦ λ _. found_so q xs
    ] refl

-- and what holds of all holds of it
pub found_is : {X : Type 0} (P : X → Type 0) (q : X → Bool) (xs : List X) → All P xs → IfSome (find q xs) P
found_is P q [] all = tt
found_is P q (x ∷ xs) all =
    elim (q x) as (λ t. IfSome (cond t (Some x) (find q xs)) P) [
      | true ↦ All-head P x xs all
      | false ↦ found_is P q xs (All-tail P x xs all)
    ]
