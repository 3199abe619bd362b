-- How far a list is known to pass a test.
use Rattle.std.specs.Prelude.{◌≡◌, ℕ, zero, suc, Bool, true, List, [], ◌∷◌}

-- so many items at the beginning pass
abbrev pub BeginPassing : {X : Type 0} → (X → Bool) → ℕ → List X → Type 0
BeginPassing test zero xs = Unit {0}
BeginPassing test (suc n) [] = ⊥
BeginPassing test (suc n) (x ∷ xs) = (test x ≡ true) × BeginPassing test n xs
