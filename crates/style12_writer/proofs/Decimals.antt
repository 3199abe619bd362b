-- Decimals are not empty and have digits alone.
use Rattle.std.proofs.Common.{◌≡◌, ℕ, ℤ, pos, negsuc, zero, suc, ◌+◌, ◌/◌, ◌%◌, ◌<◌, ◌≤◌, false, eqb, List, [], ◌∷◌, length, decimal, subst, arith}
use Rattle.std.specs.Prelude.{All}
use Rattle.std.specs.Fmt.{digits, digits_onto, digit_glyph, signed_decimal}
use Rattle.std.proofs.lemmas.Bool.{cond_both, cond_below}
use Rattle.std.proofs.lemmas.List.Elements.{All-nil, All-cons, All-weaker}
use Rattle.fics_words.proofs.Digits.{IsDigit}

-- a digit, or a minus
abbrev pub IsDigitOrMinus : ℕ → Type 0
IsDigitOrMinus byte = (45 ≤ byte) × (byte ≤ 57)

IsDigit-glyph : (n : ℕ) → IsDigit (digit_glyph false (n % 10))
IsDigit-glyph n =
    let glyph : 48 + n % 10 ≡ digit_glyph false (n % 10) =
    cond_below (n % 10) 10 (48 + n % 10) (87 + n % 10) (omega arith) in
    subst IsDigit glyph (omega arith, omega arith)

All-digits_onto : (k n : ℕ) (after : List ℕ) → All IsDigit after → All IsDigit (digits_onto k 10 false n after)
All-digits_onto zero n after h = h
All-digits_onto (suc k) n after h =
    let more : All IsDigit (digit_glyph false (n % 10) ∷ after) = All-cons IsDigit _ after (IsDigit-glyph n) h in
    cond_both (eqb (n / 10) 0) _ _ (λ digits. All IsDigit digits) (λ _. more) (λ _. All-digits_onto k (n / 10) _ more)

length-digits_onto : (k n : ℕ) (after : List ℕ) → length after ≤ length (digits_onto k 10 false n after)
length-digits_onto zero n after = omega arith
length-digits_onto (suc k) n after =
    let longer = digit_glyph false (n % 10) ∷ after in
    cond_both (eqb (n / 10) 0) longer (digits_onto k 10 false (n / 10) longer) (λ digits. length after ≤ length digits)
    (λ _. omega arith) (λ _. let step = length-digits_onto k (n / 10) longer in omega arith)

length-digits_onto-suc : (k n : ℕ) (after : List ℕ) → length after < length (digits_onto (suc k) 10 false n after)
length-digits_onto-suc k n after =
    let longer = digit_glyph false (n % 10) ∷ after in
    cond_both (eqb (n / 10) 0) longer (digits_onto k 10 false (n / 10) longer) (λ digits. length after < length digits)
    (λ _. omega arith) (λ _. let step = length-digits_onto k (n / 10) longer in omega arith)

pub All-decimal : (n : ℕ) → All IsDigit (decimal n)
unfolding digits
All-decimal n = All-digits_onto 64 n [] (All-nil IsDigit)

pub decimal_some : (n : ℕ) → 0 < length (decimal n)
unfolding digits
decimal_some n = length-digits_onto-suc 63 n []

pub All-signed_decimal : (z : ℤ) → All IsDigitOrMinus (signed_decimal z)
All-signed_decimal (pos n) =
    All-weaker IsDigit IsDigitOrMinus (λ byte h. (omega arith, h.1)) (decimal n) (All-decimal n)
All-signed_decimal (negsuc n) =
    All-cons IsDigitOrMinus 45 (decimal (suc n)) (omega arith, omega arith)
    (All-weaker IsDigit IsDigitOrMinus (λ byte h. (omega arith, h.1)) (decimal (suc n)) (All-decimal (suc n)))

pub signed_decimal_some : (z : ℤ) → 0 < length (signed_decimal z)
signed_decimal_some (pos n) = decimal_some n
signed_decimal_some (negsuc n) = omega arith
