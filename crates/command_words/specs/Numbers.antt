-- Numbers as arguments: decimals without leading zeros, up to a limit.
use Rattle.std.specs.Prelude.{◌≡◌, ℕ, nat_le, ◌==◌, not, ◌&&◌, if◌then◌else◌, Bool, false, List, [], ◌∷◌, Option, Some, None, is_none, codes, refl}
use Rattle.std.specs.Str.{all_ascii_digits}
use Rattle.std.specs.Str.Parse.{digits_value}

-- a decimal is digits, and begins with 0 only where it is `0`
abbrev pub is_decimal : List ℕ → Bool
is_decimal [] = false
is_decimal (digit ∷ []) = all_ascii_digits (digit ∷ [])
is_decimal (digit ∷ next ∷ digits) = not (digit == 48) && all_ascii_digits (digit ∷ next ∷ digits)

-- the number of which the word is the decimal, if it is at most the limit
unfoldable pub number_within : ℕ → List ℕ → Option ℕ
number_within most word =
    let number = digits_value 10 word in if is_decimal word && nat_le number most then Some number else None

-- the word is a decimal above 255, however long, which no channel has as its number
abbrev pub is_no_channel : List ℕ → Bool
is_no_channel word = is_decimal word && is_none (number_within 255 word)

example_most : number_within 600 (codes "600") ≡ Some 600
unfolding number_within
example_most = refl

example_nought : number_within 600 (codes "0") ≡ Some 0
unfolding number_within
example_nought = refl

example_too_much : number_within 600 (codes "601") ≡ None
unfolding number_within
example_too_much = refl

example_leading_zero : number_within 600 (codes "05") ≡ None
unfolding number_within
example_leading_zero = refl

example_letters : number_within 600 (codes "5a") ≡ None
unfolding number_within
example_letters = refl

example_sign : number_within 600 (codes "+5") ≡ None
unfolding number_within
example_sign = refl
