-- Numbers drawn from a seed, each from the one before it: the linear congruential sequence of Knuth's MMIX, of whose
-- numbers the high bits are used. This server's own.
use Rattle.std.specs.Prelude.{◌≡◌, ℕ, ◌+◌, ◌*◌, ◌^◌, ◌/◌, ◌%◌}

-- the number at which the sequence stands after one draw more
unfoldable pub drawn_on : ℕ → ℕ
drawn_on number = (number * 6364136223846793005 + 1442695040888963407) % 2 ^ 64

-- what the draw gives: the high 31 bits of that number, as a number below the bound
unfoldable pub drawn : ℕ → ℕ → ℕ
drawn number below = (drawn_on number / 2 ^ 33) % below

-- the sequence of the seed 0: its first numbers, and what they give below 40
pub record DrawExamples : Type 0 where
  pub first : drawn_on 0 ≡ 1442695040888963407
  pub second : drawn_on (drawn_on 0) ≡ 1876011003808476466
  pub given : drawn 0 40 ≡ 7
