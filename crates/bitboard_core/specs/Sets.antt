-- Sets of squares as numbers: bit t of a set stands for square t.
use Rattle.std.specs.Prelude.{◌≡◌, ℕ, zero, suc, ◌+◌, ◌*◌, ◌^◌, ◌<◌, Bool, true, false, List, map, Option}
use Rattle.std.specs.List.{range_with_len}
use Rattle.std.specs.Int.{bit_at}
use Rattle.chess_model.specs.declared.man.Man.{Man}
use Rattle.chess_model.specs.Placement.{Placement, man_at}

-- the set has the square t
abbrev pub Has : ℕ → ℕ → Type 0
Has set t = bit_at set t ≡ 1

-- the bit that says whether a test holds
abbrev pub bit_if : Bool → ℕ
bit_if true = 1
bit_if false = 0

-- the numbers below n for which the test holds, as bits
unfoldable pub set_below : ℕ → (ℕ → Bool) → ℕ
set_below zero f = 0
set_below (suc n) f = bit_if (f n) * 2 ^ n + set_below n f

-- the squares for which the test holds
unfoldable pub set_of : (ℕ → Bool) → ℕ
set_of f = set_below 64 f

-- for each square a the squares t for which the test of a and t holds
unfoldable pub table_of : (ℕ → ℕ → Bool) → List ℕ
table_of f = map (λ a. set_of (f a)) (range_with_len 0 64)

-- the set has exactly the squares where what stands there passes the test
pub record IsSetOf (f : Option Man → Bool) (P : Placement) (set : ℕ) : Type 0 where
  pub each : (t : ℕ) → t < 64 → bit_at set t ≡ bit_if (f (man_at P t))
