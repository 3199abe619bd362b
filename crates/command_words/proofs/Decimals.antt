-- What is read as a number is the decimal of that number.
use Rattle.std.proofs.Common.{◌≡◌, ◌≢◌, ℕ, zero, suc, ◌^◌, ◌<◌, ◌≤◌, Bool, true, false, cond, List, [], ◌∷◌, length, get_or, refl, sym, ap, subst, ◌∙◌, arith, Some, None}
use Rattle.std.specs.Prelude.{◌&&◌, ◌==◌, not, nat_le, decimal}
use Rattle.std.specs.Str.{all_ascii_digits}
use Rattle.std.specs.Str.Parse.{digits_value}
use Rattle.std.proofs.lemmas.Bool.Decides.{nat_tests}
use Rattle.std.proofs.lemmas.Fmt.{decimal_digit, decimal_is_IsNumeral, first_decimal, decimal-digits_value}
use Rattle.std.proofs.lemmas.Str.Parse.{IsNumeralModel, numerals_by_value, tells_all_ascii_digits}
use Rattle.fics_words.specs.Number.{IsDecimal}
use Rattle.command_words.specs.Numbers.{is_decimal, number_within}
use Rattle.fics_words.proofs.HandleTests.{at_least, is_at_least}
use Rattle.std.proofs.lemmas.Bool.{and_parts, and_from}

own : IsNumeralModel (λ ds. all_ascii_digits ds ≡ true) (digits_value 10)
own = numerals_by_value (λ ds. all_ascii_digits ds ≡ true) tells_all_ascii_digits

no_nought : (b : ℕ) → not (b == 48) ≡ true → b ≢ 48
no_nought b e = grind (arith, nat_tests)

is_no_nought : (b : ℕ) → b ≢ 48 → not (b == 48) ≡ true
is_no_nought b e = grind (arith, nat_tests)

decimal_spelled : (word : List ℕ) → is_decimal word ≡ true → digits_value 10 word < 2 ^ 64
    → decimal (digits_value 10 word) ≡ word
decimal_spelled [] e small = absurd (let bad : false ≡ true = e in cc)
decimal_spelled (b ∷ []) e small = decimal-digits_value own (b ∷ []) e (omega arith) (λ nought. refl) small
decimal_spelled (b ∷ c ∷ word) e small =
    let both = and_parts (not (b == 48)) (all_ascii_digits (b ∷ c ∷ word)) e in
    decimal-digits_value own (b ∷ c ∷ word) both.1 (omega arith) (λ nought. absurd (no_nought b both.0 nought)) small

is_decimal_of : (word : List ℕ) → 0 < length word → all_ascii_digits word ≡ true
    → (get_or word 0 0 ≡ 48 → length word ≡ 1) → is_decimal word ≡ true
is_decimal_of [] some digits first = absurd (omega arith)
is_decimal_of (b ∷ []) some digits first = digits
is_decimal_of (b ∷ c ∷ word) some digits first =
    and_from (not (b == 48)) (all_ascii_digits (b ∷ c ∷ word))
    (is_no_nought b (λ nought. let one = first nought in omega arith)) digits

first_digit : (n : ℕ) → n < 2 ^ 64 → get_or (decimal n) 0 0 ≡ 48 → length (decimal n) ≡ 1
first_digit zero small e = ap length (decimal_digit 0 (omega arith))
first_digit (suc n) small e = absurd (let more = first_decimal (suc n) (omega arith) small in omega arith)

decimal_is_decimal : (n : ℕ) → n < 2 ^ 64 → is_decimal (decimal n) ≡ true
decimal_is_decimal n small =
    let numeral = decimal_is_IsNumeral n small in
    is_decimal_of (decimal n) numeral.0.0 (own.from (decimal n) numeral.0.1) (first_digit n small)

-- a decimal within the limit is read as its number
pub number_of-decimal : (most n : ℕ) → n ≤ most → most < 2 ^ 64 → number_within most (decimal n) ≡ Some n
unfolding number_within
number_of-decimal most n within small =
    let value : digits_value 10 (decimal n) ≡ n = (decimal_is_IsNumeral n (omega arith)).1 in
    let yes : (is_decimal (decimal n) && nat_le (digits_value 10 (decimal n)) most) ≡ true =
    and_from _ _ (decimal_is_decimal n (omega arith)) (is_at_least _ most (omega (arith, value))) in
    ap (λ (t : Bool). cond t (Some (digits_value 10 (decimal n))) None) yes ∙ ap (λ (m : ℕ). Some m) value

-- what is read as a number is its decimal, within the limit
pub number_of-spelled : (most : ℕ) (word : List ℕ) (n : ℕ) → most < 2 ^ 64 → number_within most word ≡ Some n
    → IsDecimal most word n
unfolding number_within
number_of-spelled most word n small e =
    elim (is_decimal word && nat_le (digits_value 10 word) most)
    as (λ t.
    (is_decimal word && nat_le (digits_value 10 word) most) ≡ t → cond t (Some (digits_value 10 word)) None ≡ Some n
    → IsDecimal most word n) [
      | true ↦ λ is e.
          let both = and_parts (is_decimal word) (nat_le (digits_value 10 word) most) is in
          let within : digits_value 10 word ≤ most = at_least _ most both.1 in
          let same : digits_value 10 word ≡ n = cc in
          subst (λ (m : ℕ). (word ≡ decimal m) × (m ≤ most)) same
          (sym (decimal_spelled word both.0 (omega arith)), within)
      | false ↦ λ is e. absurd (let bad : None ≡ Some n = e in cc)
    ] refl e

pub read_is : (most : ℕ) (word : List ℕ) (n : ℕ) → most < 2 ^ 64 → IsDecimal most word n
    → Some n ≡ number_within most word
read_is most word n small is = sym (ap (number_within most) is.0 ∙ number_of-decimal most n is.1 small)

pub unread_is : (most : ℕ) (word : List ℕ) → most < 2 ^ 64 → ((n : ℕ) → n ≤ most → word ≢ decimal n)
    → None ≡ number_within most word
unread_is most word small none =
    elim (number_within most word) as (λ o. number_within most word ≡ o → None ≡ o) [
      | None ↦ λ e. refl
      | Some n ↦ λ e. let is = number_of-spelled most word n small e in absurd (none n is.1 is.0)
    ] refl
