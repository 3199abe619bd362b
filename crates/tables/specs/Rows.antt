-- Rows that are found by a key.
use Rattle.std.specs.Prelude.{ℕ, zero, suc, Bool, List, [], ◌∷◌, cond, map}
use Rattle.std.specs.List.{IsDistinct}

module _ {K T : Type 0} (key_of : T → K) where
  -- each row behind its key
  abbrev pub keyed : List T → List (K × T)
  keyed rows = map (λ row. (key_of row, row)) rows

  -- the row has this key
  abbrev pub has_key : (K → K → Bool) → K → T → Bool
  has_key eq key row = eq key (key_of row)

-- no two rows have one key
abbrev pub AreApart : {K T : Type 0} → (K → K → Bool) → (T → K) → List T → Type 0
AreApart eq key_of rows = IsDistinct eq (map key_of rows)

-- the list with its first item that passes the test changed, or as it is where none does
abbrev pub change_first : {X : Type 0} → (X → Bool) → (X → X) → List X → List X
change_first test change [] = []
change_first test change (x ∷ xs) = cond (test x) (change x ∷ xs) (x ∷ change_first test change xs)

-- the list with the item at this place changed
abbrev pub change_at : {X : Type 0} → ℕ → (X → X) → List X → List X
change_at place change [] = []
change_at zero change (x ∷ xs) = change x ∷ xs
change_at (suc place) change (x ∷ xs) = x ∷ change_at place change xs
