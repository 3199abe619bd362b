-- Sets of squares, bit by bit.
use Rattle.std.proofs.Common.{arith, ◌≡◌, ℕ, zero, suc, ◌+◌, ◌-◌, ◌*◌, ◌^◌, ◌<◌, ◌≤◌, ◌⊎◌, Bool, true, false, get_or, refl, sym, ap, ◌∙◌, inl, inr, max, zero-add}
use Rattle.std.specs.Int.{bit_at}
use Rattle.std.specs.Int.RustNames.{bit_or}
use lib.Bits.{bit_and}
use Rattle.std.proofs.lemmas.Bool.{cases_lt}
use Rattle.std.proofs.lemmas.List.FromFn.{get_or-map-range_with_len}
use Rattle.std.proofs.lemmas.Nat.Bits.{bit_at_and, bit_at_or, bit_at_cat_low, bit_at_cat_high, bit_at-lt}
use Rattle.std.proofs.Math.Nat.{two-pow-succ}
use Rattle.bitboard_core.specs.Sets.{Has, bit_if, set_below, set_of, table_of}

bit_if-lt : (b : Bool) → bit_if b < 2
bit_if-lt true = omega arith
bit_if-lt false = omega arith

bit_of_bit_if : (b : Bool) → bit_at (bit_if b) 0 ≡ bit_if b
bit_of_bit_if true = refl
bit_of_bit_if false = refl

set_below-lt : (n : ℕ) (f : ℕ → Bool) → set_below n f < 2 ^ n
unfolding set_below
set_below-lt zero f = omega arith
set_below-lt (suc n) f = times (bit_if (f n)) (bit_if-lt (f n)) (set_below n f) (set_below-lt n f)
  where
    times : (b : ℕ) → b < 2 → (x : ℕ) → x < 2 ^ n → b * 2 ^ n + x < 2 ^ suc n
    times zero l x h = omega (arith, two-pow-succ n)
    times (suc zero) l x h = omega (arith, two-pow-succ n)
    times (suc (suc b)) l x h = absurd (omega arith)

bit_at-set_below : (n t : ℕ) (f : ℕ → Bool) → t < n → bit_at (set_below n f) t ≡ bit_if (f t)
unfolding set_below
bit_at-set_below zero t f lt = absurd (omega arith)
bit_at-set_below (suc n) t f lt = at_or_below (bit_at-set_below n t f) (cases_lt t n)
  where
    at_or_below : (t < n → bit_at (set_below n f) t ≡ bit_if (f t)) → (t < n) ⊎ (n ≤ t) →
        bit_at (bit_if (f n) * 2 ^ n + set_below n f) t ≡ bit_if (f t)
    at_or_below less (inl below) = bit_at_cat_low (bit_if (f n)) n (set_below n f) t below ∙ less below
    at_or_below less (inr here) =
        let same : t ≡ n = omega arith in
        let none : t - n ≡ 0 = omega arith in
        bit_at_cat_high (bit_if (f n)) n (set_below n f) t (set_below-lt n f) here
        ∙ ap (bit_at (bit_if (f n))) none ∙ bit_of_bit_if (f n) ∙ ap (λ i. bit_if (f i)) (sym same)

pub bit_at-set_of : (f : ℕ → Bool) (t : ℕ) → t < 64 → bit_at (set_of f) t ≡ bit_if (f t)
unfolding set_of
bit_at-set_of f t lt = bit_at-set_below 64 t f lt

pub table_of-at : (f : ℕ → ℕ → Bool) (a : ℕ) → a < 64 → get_or (table_of f) a 0 ≡ set_of (f a)
unfolding table_of
table_of-at f a lt = get_or-map-range_with_len (λ x. set_of (f x)) 0 64 a a 0 lt (zero-add a)

-- a test on squares by a set

pub bit_if-true : (b : Bool) → bit_if b ≡ 1 → b ≡ true
bit_if-true true e = refl
bit_if-true false e = absurd (omega arith)

pub bit_if-of_true : (b : Bool) → b ≡ true → bit_if b ≡ 1
bit_if-of_true true e = refl
bit_if-of_true false e = cc

pub Has-or : (a b t : ℕ) → Has (bit_or a b) t → Has a t ⊎ Has b t
Has-or a b t h = either (bit_at a t) (bit_at b t) (bit_at-lt a t) (omega (arith, h, bit_at_or a b t))
  where
    either : (x y : ℕ) → x < 2 → max x y ≡ 1 → (x ≡ 1) ⊎ (y ≡ 1)
    either zero y l e = inr (omega arith)
    either (suc zero) y l e = inl refl
    either (suc (suc x)) y l e = absurd (omega arith)

pub Has-or_left : (a b t : ℕ) → Has a t → Has (bit_or a b) t
Has-or_left a b t h = omega (arith, h, bit_at_or a b t, bit_at-lt b t)

pub Has-or_right : (a b t : ℕ) → Has b t → Has (bit_or a b) t
Has-or_right a b t h = omega (arith, h, bit_at_or a b t, bit_at-lt a t)

pub Has-and : (a b t : ℕ) → Has (bit_and a b) t → Has a t × Has b t
Has-and a b t h = (
  omega (arith, h, bit_at_and a b t, bit_at-lt a t, bit_at-lt b t),
  omega (arith, h, bit_at_and a b t, bit_at-lt a t, bit_at-lt b t),
)

pub Has-and_both : (a b t : ℕ) → Has a t → Has b t → Has (bit_and a b) t
Has-and_both a b t h k = omega (arith, h, k, bit_at_and a b t)
