-- The bytes of a number in decimal.
use Rattle.std.proofs.Common.{ℕ, ◌+◌, ◌%◌, ◌^◌, ◌<◌, ◌≤◌, List, arith}
use Rattle.std.specs.Prelude.{decimal}
use Rattle.std.specs.List.{AllByRecursion}
use Rattle.std.proofs.lemmas.Fmt.{decimal_by_steps}
use Rattle.fics_words.proofs.Each.{each-push}

abbrev pub IsDigit : ℕ → Type 0
IsDigit byte = (48 ≤ byte) × (byte ≤ 57)

pub digits_of_decimal : (n : ℕ) → n < 2 ^ 64 → AllByRecursion IsDigit (decimal n)
digits_of_decimal n small =
    decimal_by_steps (λ (n : ℕ) (ds : List ℕ). AllByRecursion IsDigit ds)
    (λ n lt. ((omega arith, omega arith), tt))
    (λ n ds le h. each-push IsDigit ds (48 + n % 10) h (omega arith, omega arith))
    n small
