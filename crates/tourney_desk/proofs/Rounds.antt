-- What is known of the number of rounds, and of remainders of sums of two numbers below it.
use Rattle.std.proofs.Common.{◌≡◌, ℕ, ◌+◌, ◌-◌, ◌/◌, ◌%◌, ◌<◌, ◌≤◌, true, false, cond, refl, sym, ap, ◌∙◌, inl, inr, arith}
use Rattle.std.specs.Prelude.{◌⊎◌}
use Rattle.std.proofs.lemmas.Bool.{cases_lt, eq-eqb, ne_eqb, eqb-true, eqb-false}
use Rattle.std.proofs.Math.Nat.{mod-eq_of_lt, mod-eq-sub-mod}
use Rattle.tourney_desk.specs.Pairing.{is_odd, rounds_of}

-- the number of rounds is 2 half + 1, and it is the number of players or one less
pub record AreRounds (n rounds : ℕ) : Type 0 where
  pub half : ℕ
  pub odd : rounds ≡ half + half + 1
  pub most : rounds ≤ n
  pub least : n ≤ rounds + 1

pub rounds_are : (n : ℕ) → 0 < n → AreRounds n (rounds_of n)
unfolding rounds_of
rounds_are n some =
    elim (is_odd n) as (λ t. is_odd n ≡ t → AreRounds n (cond t n (n - 1))) [
      | true ↦ λ e.
          let odd : n % 2 ≡ 1 = eqb-true (n % 2) 1 e in
          record { half = n / 2; odd = omega (arith, odd); most = omega arith; least = omega arith }
      | false ↦ λ e.
          let even : n % 2 ≡ 1 → ⊥ = eqb-false (n % 2) 1 e in
          record { half = n / 2 - 1; odd = omega (arith, even, some); most = omega arith; least = omega arith }
    ] refl

-- what the number is
pub rounds_of-odd : (n : ℕ) → n % 2 ≡ 1 → n ≡ rounds_of n
unfolding rounds_of
rounds_of-odd n odd = sym (ap (λ t. cond t n (n - 1)) (eq-eqb (n % 2) 1 odd))

pub rounds_of-even : (n : ℕ) → (n % 2 ≡ 1 → ⊥) → n - 1 ≡ rounds_of n
unfolding rounds_of
rounds_of-even n even = sym (ap (λ t. cond t n (n - 1)) (ne_eqb (n % 2) 1 even))

-- the remainder of a number below twice the divisor
pub remainder_is : (x m : ℕ) → x < m + m → (x % m ≡ x) ⊎ (x % m + m ≡ x)
remainder_is x m small =
    elim (cases_lt x m) as (λ _. (x % m ≡ x) ⊎ (x % m + m ≡ x)) [
      | inl low ↦ inl (mod-eq_of_lt low)
      | inr high ↦
          let less : x % m ≡ (x - m) % m = mod-eq-sub-mod high in
          let low : x - m < m = omega arith in
          let is : (x - m) % m ≡ x - m = mod-eq_of_lt low in
          inr (omega (arith, less, is, high))
    ]

-- two of the circle, or one of the circle and the last player, whose numbers leave this remainder
pub data IsMet (m c a k : ℕ) : Type 0 where
  InCircle : a < m → k < m → (a ≡ k → ⊥) → (a + k) % m ≡ c → IsMet m c a k
  WithLast : a < m → k ≡ m → (a + a) % m ≡ c → IsMet m c a k
  OfLast : a ≡ m → k < m → (k + k) % m ≡ c → IsMet m c a k

pub same_sum : (m c a k l : ℕ) → a < m → k < m → l < m → (a + k) % m ≡ c → (a + l) % m ≡ c → k ≡ l
same_sum m c a k l p q r e f =
    let first = remainder_is (a + k) m (omega arith) in
    let second = remainder_is (a + l) m (omega arith) in
    elim first as (λ _. k ≡ l) [
      | inl x ↦ elim second as (λ _. k ≡ l) [ inl y ↦ omega arith | inr y ↦ omega arith ]
      | inr x ↦ elim second as (λ _. k ≡ l) [ inl y ↦ omega arith | inr y ↦ omega arith ]
    ]

same_double : (m half c k l : ℕ) → m ≡ half + half + 1 → k < m → l < m → (k + k) % m ≡ c → (l + l) % m ≡ c → k ≡ l
same_double m half c k l odd q r e f =
    let first = remainder_is (k + k) m (omega arith) in
    let second = remainder_is (l + l) m (omega arith) in
    elim first as (λ _. k ≡ l) [
      | inl x ↦ elim second as (λ _. k ≡ l) [ inl y ↦ omega arith | inr y ↦ omega arith ]
      | inr x ↦ elim second as (λ _. k ≡ l) [ inl y ↦ omega arith | inr y ↦ omega arith ]
    ]

-- nobody meets two
pub meets_one : (m half c a k l : ℕ) → m ≡ half + half + 1 → IsMet m c a k → IsMet m c a l → k ≡ l
meets_one m half c a k l odd (InCircle p q apart e) (InCircle p' r other f) = same_sum m c a k l p q r e f
meets_one m half c a k l odd (InCircle p q apart e) (WithLast p' r f) =
    absurd (apart (sym (same_sum m c a k a p q p e f)))
meets_one m half c a k l odd (InCircle p q apart e) (OfLast r q' f) = absurd (omega (arith, p, r))
meets_one m half c a k l odd (WithLast p r e) (InCircle p' q other f) = absurd (other (same_sum m c a a l p p q e f))
meets_one m half c a k l odd (WithLast p q e) (WithLast p' r f) = q ∙ sym r
meets_one m half c a k l odd (WithLast p q e) (OfLast r q' f) = absurd (omega (arith, p, r))
meets_one m half c a k l odd (OfLast p q e) (InCircle r q' other f) = absurd (omega (arith, p, r))
meets_one m half c a k l odd (OfLast p q e) (WithLast r q' f) = absurd (omega (arith, p, r))
meets_one m half c a k l odd (OfLast p q e) (OfLast p' r f) = same_double m half c k l odd q r e f
