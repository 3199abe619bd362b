-- The first number of a range that passes a test.
use Rattle.std.proofs.Common.{◌≡◌, ℕ, zero, suc, ◌+◌, ◌<◌, ◌≤◌, Bool, true, false, cond, Some, None, refl, ap, ◌∙◌, inl, inr, arith}
use Rattle.std.specs.List.{find, range_with_len}
use Rattle.std.proofs.lemmas.Bool.{cases_eq}

pub find-none : (p : ℕ → Bool) (a k : ℕ) → ((j : ℕ) → a ≤ j → j < a + k → p j ≡ false)
    → find p (range_with_len a k) ≡ None
find-none p a zero h = refl
find-none p a (suc k) h =
    ap (λ t. cond t (Some a) (find p (range_with_len (a + 1) k))) (h a (omega arith) (omega arith))
    ∙ find-none p (a + 1) k (λ j q r. h j (omega arith) (omega arith))

pub find-one : (p : ℕ → Bool) (a k o : ℕ) → a ≤ o → o < a + k → p o ≡ true
    → ((j : ℕ) → (j ≡ o → ⊥) → j < a + k → p j ≡ false) → find p (range_with_len a k) ≡ Some o
find-one p a zero o low high hit h = absurd (omega arith)
find-one p a (suc k) o low high hit h =
    let rest = find p (range_with_len (a + 1) k) in
    elim (cases_eq a o) as (λ _. cond (p a) (Some a) rest ≡ Some o) [
      | inl same ↦ ap (λ t. cond t (Some a) rest) (ap p same ∙ hit) ∙ ap (λ k. Some k) same
      | inr other ↦
          ap (λ t. cond t (Some a) rest) (h a other (omega arith))
          ∙ find-one p (a + 1) k o (let q : a + 1 ≤ o = omega (arith, other, low) in q) (omega arith) hit
          (λ j apart q. h j apart (omega arith))
    ]
