-- How often a number differs by an odd or an even one from those below a bound.
use Rattle.std.proofs.Common.{◌≡◌, ℕ, zero, suc, ◌+◌, ◌-◌, ◌/◌, ◌%◌, ◌<◌, ◌≤◌, true, false, cond, ltb, refl, ap, ◌∙◌, inl, inr, arith}
use Rattle.std.specs.Prelude.{◌⊎◌}
use Rattle.std.proofs.lemmas.Bool.{eqb-true, eqb-false, ltb-true, ltb-false}
use Rattle.tourney_desk.specs.Pairing.{is_odd}
use Rattle.tourney_desk.proofs.Sums.{total}

-- whether a number is odd or even, as a number
odd_tells : (d : ℕ) → ((is_odd d ≡ true) × (d % 2 ≡ 1)) ⊎ ((is_odd d ≡ false) × (d % 2 ≡ 0))
odd_tells d =
    elim (is_odd d) as (λ t. is_odd d ≡ t → ((t ≡ true) × (d % 2 ≡ 1)) ⊎ ((t ≡ false) × (d % 2 ≡ 0))) [
      | true ↦ λ e. inl (refl, eqb-true (d % 2) 1 e)
      | false ↦ λ e. let odd : d % 2 ≡ 1 → ⊥ = eqb-false (d % 2) 1 e in inr (refl, omega (arith, odd))
    ] refl

-- a term that counts odd numbers, or even ones
abbrev pub one_odd : ℕ → ℕ
one_odd d = cond (is_odd d) 1 0

abbrev pub one_even : ℕ → ℕ
one_even d = cond (is_odd d) 0 1

odd_halves : (d : ℕ) → d / 2 + one_odd d ≡ (d + 1) / 2
odd_halves d =
    elim (odd_tells d) as (λ _. d / 2 + one_odd d ≡ (d + 1) / 2) [
      | inl odd ↦ let one : one_odd d ≡ 1 = ap (λ t. cond t 1 0) odd.0 in omega (arith, one, odd.1)
      | inr even ↦ let none : one_odd d ≡ 0 = ap (λ t. cond t 1 0) even.0 in omega (arith, none, even.1)
    ]

even_halves : (d : ℕ) → (d + 1) / 2 + one_even d ≡ d / 2 + 1
even_halves d =
    elim (odd_tells d) as (λ _. (d + 1) / 2 + one_even d ≡ d / 2 + 1) [
      | inl odd ↦ let none : one_even d ≡ 0 = ap (λ t. cond t 0 1) odd.0 in omega (arith, none, odd.1)
      | inr even ↦ let one : one_even d ≡ 1 = ap (λ t. cond t 0 1) even.0 in omega (arith, one, even.1)
    ]

-- the numbers above a and below x that differ from a by an odd number, and by an even one
pub odd_above : (a x : ℕ) → total x (λ k. cond (ltb a k) (one_odd (k - a)) 0) ≡ (x - a) / 2
odd_above a zero = omega arith
odd_above a (suc x) =
    let front = odd_above a x in
    let step : (x - a) / 2 + cond (ltb a x) (one_odd (x - a)) 0 ≡ (suc x - a) / 2 =
    elim (ltb a x) as (λ t. ltb a x ≡ t → (x - a) / 2 + cond t (one_odd (x - a)) 0 ≡ (suc x - a) / 2) [
      | true ↦ λ e. let above : a < x = ltb-true a x e in omega (arith, above, odd_halves (x - a))
      | false ↦ λ e. let below : x ≤ a = ltb-false a x e in omega (arith, below)
    ] refl in
    ap (λ t. t + cond (ltb a x) (one_odd (x - a)) 0) front ∙ step

pub even_above : (a x : ℕ) → total x (λ k. cond (ltb a k) (one_even (k - a)) 0) ≡ (x - a - 1) / 2
even_above a zero = omega arith
even_above a (suc x) =
    let front = even_above a x in
    let step : (x - a - 1) / 2 + cond (ltb a x) (one_even (x - a)) 0 ≡ (suc x - a - 1) / 2 =
    elim (ltb a x) as (λ t. ltb a x ≡ t → (x - a - 1) / 2 + cond t (one_even (x - a)) 0 ≡ (suc x - a - 1) / 2) [
      | true ↦ λ e. let above : a < x = ltb-true a x e in omega (arith, above, even_halves (x - a))
      | false ↦ λ e. let below : x ≤ a = ltb-false a x e in omega (arith, below)
    ] refl in
    ap (λ t. t + cond (ltb a x) (one_even (x - a)) 0) front ∙ step

-- the numbers below a and below x that differ from a by an even number, and by an odd one
pub even_below : (a x : ℕ) → total x (λ k. cond (ltb k a) (one_even (a - k)) 0) + (a - x) / 2 ≡ a / 2
even_below a zero = omega arith
even_below a (suc x) =
    let front = even_below a x in
    let step : cond (ltb x a) (one_even (a - x)) 0 + (a - suc x) / 2 ≡ (a - x) / 2 =
    elim (ltb x a) as (λ t. ltb x a ≡ t → cond t (one_even (a - x)) 0 + (a - suc x) / 2 ≡ (a - x) / 2) [
      | true ↦ λ e. let below : x < a = ltb-true x a e in omega (arith, below, even_halves (a - x))
      | false ↦ λ e. let above : a ≤ x = ltb-false x a e in omega (arith, above)
    ] refl in
    omega (arith, front, step)

pub odd_below : (a x : ℕ) → total x (λ k. cond (ltb k a) (one_odd (a - k)) 0) + (a - x + 1) / 2 ≡ (a + 1) / 2
odd_below a zero = omega arith
odd_below a (suc x) =
    let front = odd_below a x in
    let step : cond (ltb x a) (one_odd (a - x)) 0 + (a - suc x + 1) / 2 ≡ (a - x + 1) / 2 =
    elim (ltb x a) as (λ t. ltb x a ≡ t → cond t (one_odd (a - x)) 0 + (a - suc x + 1) / 2 ≡ (a - x + 1) / 2) [
      | true ↦ λ e. let below : x < a = ltb-true x a e in omega (arith, below, odd_halves (a - x))
      | false ↦ λ e. let above : a ≤ x = ltb-false x a e in omega (arith, above)
    ] refl in
    omega (arith, front, step)

-- the odd numbers below x, and the even ones
pub odd_numbers : (x : ℕ) → total x one_odd ≡ x / 2
odd_numbers zero = omega arith
odd_numbers (suc x) = let front = odd_numbers x in omega (arith, front, odd_halves x)

pub even_numbers : (x : ℕ) → total x one_even ≡ (x + 1) / 2
even_numbers zero = omega arith
even_numbers (suc x) = let front = even_numbers x in omega (arith, front, even_halves x)
