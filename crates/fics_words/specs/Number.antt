-- Decimals: the digits of a number without leading zeros, as Rust prints them.
use Rattle.std.specs.Prelude.{◌≡◌, ℕ, ◌≤◌, List, decimal}

-- the bytes are the decimal of n, and n is at most the limit
abbrev pub IsDecimal : ℕ → List ℕ → ℕ → Type 0
IsDecimal most bytes n = (bytes ≡ decimal n) × (n ≤ most)
