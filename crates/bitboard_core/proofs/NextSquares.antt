-- The next square of a set.
use Rattle.std.proofs.Common.{arith, ◌≡◌, ℕ, ◌-◌, ◌*◌, ◌%◌, ◌^◌, ◌<◌, ◌≤◌, ap, ◌∙◌, inl, inr, w64}
use Rattle.std.specs.Int.{bit_at}
use lib.Bits.{bit_and}
use lib.Count.{count_trailing_zeros}
use Rattle.std.proofs.lemmas.Bool.{cases_lt, cases_order}
use Rattle.std.proofs.lemmas.Nat.{and_le_l, trailing_le}
use Rattle.std.proofs.lemmas.Nat.Bits.{bit_at-zero, bit_at_mask_inside, bit_at_mask_below, bit_at-trailing_zeros, ones_shl}
use Rattle.bitboard_core.specs.Sets.{Has}
use Rattle.bitboard_core.proofs.SetLemmas.{Has-and, Has-and_both}

module _ (set n : ℕ) (fits : set < 2 ^ 64) (ln : n < 64) where
  mask : ℕ
  mask = (2 ^ 64 - 1) * 2 ^ n % 2 ^ 64

  rest : ℕ
  rest = bit_and set mask

  mask-is : mask ≡ 2 ^ 64 - 2 ^ n
  unfolding mask
  mask-is = let le : n ≤ 64 = omega (arith, ln) in ones_shl 64 n le

  above : (k : ℕ) → k < 64 → Has mask k → n ≤ k
  above k lk h = elim (cases_lt k n) [
    | inl less ↦ absurd (omega (arith, h, ap (λ x. bit_at x k) mask-is, bit_at_mask_below n 64 k less))
    | inr le ↦ le
  ]

  inside : (k : ℕ) → n ≤ k → k < 64 → Has mask k
  inside k le lk = ap (λ x. bit_at x k) mask-is ∙ bit_at_mask_inside n 64 k le lk

  rest-lt : rest < 2 ^ 64
  unfolding rest
  rest-lt = omega (arith, fits, and_le_l set mask)

  zeros : ℕ
  zeros = count_trailing_zeros 64 rest

  some : zeros < 64 → 0 < rest
  unfolding zeros count_trailing_zeros
  some less = elim (cases_order rest 0) [
    | inl none ↦
        let all : count_trailing_zeros 64 rest ≡ 64 = ap (count_trailing_zeros 64) none in
        absurd (omega (arith, less, all))
    | inr other ↦ elim other [ inl below ↦ absurd (omega (arith, below)) | inr more ↦ more ]
  ]

  here : zeros < 64 → Has rest zeros
  unfolding zeros
  here less = (bit_at-trailing_zeros w64 rest (some less) rest-lt).1

  found-in : zeros < 64 → Has set zeros × Has mask zeros
  unfolding rest
  found-in less = Has-and set mask zeros (here less)

  clear : (k : ℕ) → k < zeros → bit_at rest k ≡ 0
  unfolding zeros
  clear k lk = elim (cases_order rest 0) [
    | inl none ↦ ap (λ x. bit_at x k) none ∙ bit_at-zero k
    | inr other ↦ elim other [
      | inl below ↦ absurd (omega (arith, below))
      | inr more ↦ (bit_at-trailing_zeros w64 rest more rest-lt).2 k lk
    ]
  ]

  zeros-le : zeros ≤ 64
  unfolding zeros
  zeros-le = trailing_le 64 rest

  none-before : (k : ℕ) → n ≤ k → k < zeros → ¬ Has set k
  unfolding rest
  none-before k le lk h =
      absurd (omega (arith, clear k lk, Has-and_both set mask k h (inside k le (omega (arith, lk, zeros-le)))))

pub next-from : (set n : ℕ) → set < 2 ^ 64 → n < 64
    → count_trailing_zeros 64 (bit_and set ((2 ^ 64 - 1) * 2 ^ n % 2 ^ 64)) < 64 →
    n ≤ count_trailing_zeros 64 (bit_and set ((2 ^ 64 - 1) * 2 ^ n % 2 ^ 64))
unfolding zeros rest mask
next-from set n fits ln less = above set n fits ln (zeros set n fits ln) less (found-in set n fits ln less).1

pub next-found : (set n : ℕ) → set < 2 ^ 64 → n < 64
    → count_trailing_zeros 64 (bit_and set ((2 ^ 64 - 1) * 2 ^ n % 2 ^ 64)) < 64 →
    Has set (count_trailing_zeros 64 (bit_and set ((2 ^ 64 - 1) * 2 ^ n % 2 ^ 64)))
unfolding zeros rest mask
next-found set n fits ln less = (found-in set n fits ln less).0

pub next-first : (set n : ℕ) → set < 2 ^ 64 → n < 64 → (k : ℕ) → n ≤ k →
    k < count_trailing_zeros 64 (bit_and set ((2 ^ 64 - 1) * 2 ^ n % 2 ^ 64)) → ¬ Has set k
unfolding zeros rest mask
next-first set n fits ln k le lk = none-before set n fits ln k le lk
