-- Numbers cut to a window, and the greater of two numbers.
use Rattle.std.proofs.Common.{arith, ◌≡◌, ℤ, pos, neg_ℤ, ◌-ℤ◌, ◌<ℤ◌, ◌≤ℤ◌, true, false, ◌∙◌, FitsSigned, w32, to_z, of_z}
use Rattle.std.specs.Int.{int_max, int_min}
use Rattle.std.specs.Prelude.{int_lt}
use Rattle.std.proofs.lemmas.Int.{ints, clamps}
use Rattle.house_bot.specs.Searching.{cut, IsWindow}

-- what the other player's search gives, seen from this side
cut-neg : (low high x r : ℤ) → low <ℤ high → r ≡ cut (neg_ℤ high) (neg_ℤ low) x → neg_ℤ r ≡ cut low high (neg_ℤ x)
cut-neg low high x r h e = omega (arith, ints, clamps, e)

pub int_max-swap : (a b c : ℤ) → int_max (int_max a b) c ≡ int_max (int_max a c) b
int_max-swap a b c = omega (arith, ints, clamps)

pub int_max-comm : (a b : ℤ) → int_max a b ≡ int_max b a
int_max-comm a b = omega (arith, ints, clamps)

pub le-trans : (a b c : ℤ) → a ≤ℤ b → b ≤ℤ c → a ≤ℤ c
le-trans a b c h k = omega (arith, ints, h, k)

pub int_min-reached : (high x : ℤ) → high ≤ℤ x → high ≡ int_min high x
int_min-reached high x h = omega (arith, ints, clamps, h)

pub int_min-below : (high x r : ℤ) → r ≡ int_min high x → r <ℤ high → r ≡ x
int_min-below high x r e less = omega (arith, ints, clamps, e, less)

pub int_min-over : (high x r : ℤ) → r ≡ int_min high x → high ≤ℤ r → high ≤ℤ x
int_min-over high x r e more = omega (arith, ints, clamps, e, more)

-- the greatest of the bound and of a value, cut above, is the value cut to the window
pub cut-whole : (low high x : ℤ) → low <ℤ high → int_min high (int_max low x) ≡ cut low high x
cut-whole low high x h = omega (arith, ints, clamps, h)

pub cut-over : (low high x : ℤ) → low <ℤ high → high ≤ℤ int_max low x → high ≡ cut low high x
cut-over low high x h more = omega (arith, ints, clamps, h, more)

-- ---- tests of order
pub int_lt-yes : (a b : ℤ) → a <ℤ b → int_lt a b ≡ true
int_lt-yes a b h = grind (arith, ints)

pub int_lt-no : (a b : ℤ) → b ≤ℤ a → int_lt a b ≡ false
int_lt-no a b h = grind (arith, ints)

-- ---- negated bounds and values as the code passes them
-- a number that can be a bound
pub record IsBound (z : ℤ) : Type 0 where
  pub least : neg_ℤ (pos 200000) ≤ℤ z
  pub most : z ≤ℤ pos 200000

IsBound-low : (low high : ℤ) → IsWindow low high → IsBound low
IsBound-low low high h = record { least = h.from; most = omega (arith, ints, h.order, h.to) }

IsBound-high : (low high : ℤ) → IsWindow low high → IsBound high
IsBound-high low high h = record { least = omega (arith, ints, h.order, h.from); most = h.to }

abbrev negated_bits : ℤ → ℤ
negated_bits z = to_z w32 (of_z w32 (pos 0 -ℤ to_z w32 (of_z w32 z)))

negated : (z : ℤ) → IsBound z → negated_bits z ≡ neg_ℤ z
negated z h = omega (arith, ints, h.least, h.most)

pub negated_fits : (z : ℤ) → IsBound z → FitsSigned w32 (pos 0 -ℤ to_z w32 (of_z w32 z))
negated_fits z h = omega (arith, ints, h.least, h.most)

-- what the other player's search gives, asked for with the window negated
module _ (low high v x : ℤ) (window : IsWindow low high)
    (gives : x ≡ cut (negated_bits high) (negated_bits low) v) where
  from_other : x ≡ cut (neg_ℤ high) (neg_ℤ low) v
  from_other =
      gives
      ∙ (λ i. cut (negated high (IsBound-high low high window) i) (negated low (IsBound-low low high window) i) v)

  pub IsBound-given : IsBound x
  IsBound-given = record {
    least = omega (arith, ints, clamps, from_other, window.from, window.order, window.to);
    most = omega (arith, ints, clamps, from_other, window.from, window.order, window.to);
  }

  pub negated_given : negated_bits x ≡ cut low high (neg_ℤ v)
  negated_given = negated x IsBound-given ∙ cut-neg low high v x window.order from_other
