-- Numbers that were written are read again.
use Rattle.std.proofs.Common.{◌≡◌, ℕ, ◌^◌, ◌<◌, List, ◌++◌, drop, refl}
use Rattle.std.proofs.lemmas.Nat.{from_be_bytes-to_be_bytes_2, from_be_bytes-to_be_bytes_4, from_be_bytes-to_be_bytes_8}
use Rattle.game_records.specs.Numbers.{two_bytes, four_bytes, eight_bytes}
use Rattle.game_records.specs.Reading.{two_in, four_in, eight_in}

pub two-read : (n : ℕ) (rest : List ℕ) → n < 2 ^ 16 → two_in (two_bytes n ++ rest) ≡ n
unfolding two_in two_bytes
two-read n rest h = from_be_bytes-to_be_bytes_2 n h

pub two-behind : (n : ℕ) (rest : List ℕ) → drop 2 (two_bytes n ++ rest) ≡ rest
unfolding two_bytes
two-behind n rest = refl

pub two_two-behind : (m n : ℕ) (rest : List ℕ) → drop 4 (two_bytes m ++ (two_bytes n ++ rest)) ≡ rest
unfolding two_bytes
two_two-behind m n rest = refl

pub four-read : (n : ℕ) (rest : List ℕ) → n < 2 ^ 32 → four_in (four_bytes n ++ rest) ≡ n
unfolding four_in four_bytes
four-read n rest h = from_be_bytes-to_be_bytes_4 n h

pub eight-read : (n : ℕ) (rest : List ℕ) → n < 2 ^ 64 → eight_in (eight_bytes n ++ rest) ≡ n
unfolding eight_in eight_bytes
eight-read n rest h = from_be_bytes-to_be_bytes_8 n h

pub eight-behind : (n : ℕ) (rest : List ℕ) → drop 8 (eight_bytes n ++ rest) ≡ rest
unfolding eight_bytes
eight-behind n rest = refl

pub sixteen-behind : (m n : ℕ) (rest : List ℕ) → drop 16 (eight_bytes m ++ (eight_bytes n ++ rest)) ≡ rest
unfolding eight_bytes
sixteen-behind m n rest = refl

pub twenty-behind : (m n k : ℕ) (rest : List ℕ)
    → drop 20 (eight_bytes m ++ (eight_bytes n ++ (four_bytes k ++ rest))) ≡ rest
unfolding eight_bytes four_bytes
twenty-behind m n k rest = refl

pub twenty_four-behind : (m n k l : ℕ) (rest : List ℕ)
    → drop 24 (eight_bytes m ++ (eight_bytes n ++ (four_bytes k ++ (four_bytes l ++ rest)))) ≡ rest
unfolding eight_bytes four_bytes
twenty_four-behind m n k l rest = refl
