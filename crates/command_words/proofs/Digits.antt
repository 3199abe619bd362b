-- Bytes from 0 to 9 are digits.
use Rattle.std.proofs.Common.{◌≡◌, ℕ, List, [], ◌∷◌, refl, ap}
use Rattle.std.specs.Prelude.{◌&&◌, nat_le}
use Rattle.std.specs.List.{list_all}
use Rattle.std.specs.Char.{is_ascii_digit}
use Rattle.std.specs.Str.{all_ascii_digits}

pub within_digits : (bytes : List ℕ) → list_all (λ b. nat_le 48 b && nat_le b 57) bytes ≡ all_ascii_digits bytes
within_digits [] = refl
within_digits (b ∷ bytes) = ap (λ rest. is_ascii_digit b && rest) (within_digits bytes)
