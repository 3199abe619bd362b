-- One step on in a list.
use Rattle.std.proofs.Common.{◌≡◌, ℕ, ◌+◌, zero, suc, List, [], ◌∷◌, ◌++◌, take, drop, ap, ◌∙◌, add-one, arith}

take_suc : {X : Type 0} (i : ℕ) (xs : List X) (x : X) (rest : List X) → drop i xs ≡ x ∷ rest
    → take (suc i) xs ≡ take i xs ++ x ∷ []
take_suc zero [] x rest h = cc
take_suc zero (y ∷ ys) x rest h = grind arith
take_suc (suc i) [] x rest h = cc
take_suc (suc i) (y ∷ ys) x rest h = ap (λ zs. y ∷ zs) (take_suc i ys x rest h)

drop_suc : {X : Type 0} (i : ℕ) (xs : List X) (x : X) (rest : List X) → drop i xs ≡ x ∷ rest → drop (suc i) xs ≡ rest
drop_suc zero [] x rest h = cc
drop_suc zero (y ∷ ys) x rest h = grind arith
drop_suc (suc i) [] x rest h = cc
drop_suc (suc i) (y ∷ ys) x rest h = drop_suc i ys x rest h

pub take_step : {X : Type 0} (i : ℕ) (xs : List X) (x : X) (rest : List X) → drop i xs ≡ x ∷ rest
    → take (i + 1) xs ≡ take i xs ++ x ∷ []
take_step i xs x rest h = ap (λ n. take n xs) (add-one i) ∙ take_suc i xs x rest h

pub drop_step : {X : Type 0} (i : ℕ) (xs : List X) (x : X) (rest : List X) → drop i xs ≡ x ∷ rest
    → drop (i + 1) xs ≡ rest
drop_step i xs x rest h = ap (λ n. drop n xs) (add-one i) ∙ drop_suc i xs x rest h
