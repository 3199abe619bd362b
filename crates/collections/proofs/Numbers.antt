-- Numbers that are the same or differ, seen from the other one, and numbers that rise.
use Rattle.std.proofs.Common.{◌≡◌, ◌==◌, ◌<◌, ◌+◌, ℕ, false, sym, ◌∙◌, arith}
use Rattle.std.specs.Cmp.{both_ways}
use Rattle.std.proofs.lemmas.Bool.{eqb-true, eq-eqb}

pub turned : (a b : ℕ) → (a == b) ≡ (b == a)
turned a b =
    both_ways (a == b) (b == a)
    (λ same. eq-eqb b a (sym (eqb-true a b same)))
    (λ same. eq-eqb a b (sym (eqb-true b a same)))

pub differ_turned : (a b : ℕ) → (a == b) ≡ false → (b == a) ≡ false
differ_turned a b differ = turned b a ∙ differ

-- a number above another one that isn't the next
pub past : (a b : ℕ) → a < b → (b ≡ a + 1 → ⊥) → a + 1 < b
past a b above other = grind arith

pub not_same : (a b : ℕ) → a < b → b ≡ a → ⊥
not_same a b h e = omega arith

pub not_same_above : (a b : ℕ) → a < b → a ≡ b → ⊥
not_same_above a b h e = omega arith
