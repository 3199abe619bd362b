-- Items of lists, and lists of first items.
use Rattle.std.proofs.Common.{◌≡◌, ℕ, ◌+◌, ◌<◌, zero, suc, List, [], ◌∷◌, ◌++◌, length, take, drop, Some, refl, ap, subst, arith}
use Rattle.std.specs.Prelude.{slice_get}
use Rattle.std.specs.List.{AllByRecursion}

-- an item of the first ones is one of all
pub slice_get-take : {X : Type 0} (k : ℕ) (xs : List X) (i : ℕ) (x : X) → slice_get (take k xs) i ≡ Some x
    → (i < k) × (slice_get xs i ≡ Some x)
slice_get-take zero xs i x e = absurd cc
slice_get-take (suc k) [] i x e = absurd cc
slice_get-take (suc k) (y ∷ ys) zero x e = (omega arith, e)
slice_get-take (suc k) (y ∷ ys) (suc i) x e = let rest = slice_get-take k ys i x e in (omega (arith, rest.0), rest.1)

-- and the other way round
pub slice_get-first : {X : Type 0} (k : ℕ) (xs : List X) (i : ℕ) → i < k → slice_get (take k xs) i ≡ slice_get xs i
slice_get-first zero xs i low = absurd (omega (arith, low))
slice_get-first (suc k) [] i low = refl
slice_get-first (suc k) (y ∷ ys) zero low = refl
slice_get-first (suc k) (y ∷ ys) (suc i) low = slice_get-first k ys i (omega (arith, low))

-- one item more
pub take-next : {X : Type 0} (k : ℕ) (xs : List X) (x : X) → slice_get xs k ≡ Some x
    → take (suc k) xs ≡ take k xs ++ x ∷ []
take-next k [] x e = absurd cc
take-next zero (y ∷ ys) x e = let same : y ≡ x = cc in ap (λ z. z ∷ []) same
take-next (suc k) (y ∷ ys) x e = ap (λ zs. y ∷ zs) (take-next k ys x e)

-- a list around one of its items
pub around : {X : Type 0} (k : ℕ) (xs : List X) (x : X) → slice_get xs k ≡ Some x
    → xs ≡ take k xs ++ x ∷ drop (suc k) xs
around k [] x e = absurd cc
around zero (y ∷ ys) x e = let same : y ≡ x = cc in ap (λ z. z ∷ ys) same
around (suc k) (y ∷ ys) x e = ap (λ zs. y ∷ zs) (around k ys x e)

pub slice_get-right : {X : Type 0} (xs ys : List X) (i j : ℕ) → j ≡ length xs + i
    → slice_get (xs ++ ys) j ≡ slice_get ys i
slice_get-right [] ys i j e = let same : j ≡ i = omega (arith, e) in ap (slice_get ys) same
slice_get-right (x ∷ xs) ys i zero e = absurd (omega (arith, e))
slice_get-right (x ∷ xs) ys i (suc j) e = slice_get-right xs ys i j (omega (arith, e))

-- what holds of each item holds of the one in a place
pub at_place : {X : Type 0} (P : X → Type 0) (xs : List X) (i : ℕ) (x : X) → AllByRecursion P xs
    → slice_get xs i ≡ Some x → P x
at_place P [] i x h e = absurd cc
at_place P (y ∷ ys) zero x h e = let same : y ≡ x = cc in subst P same h.0
at_place P (y ∷ ys) (suc i) x h e = at_place P ys i x h.1 e
