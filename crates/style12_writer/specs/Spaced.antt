-- Fields that follow others in a line.
use Rattle.std.specs.Prelude.{ℕ, List, ◌∷◌, flat_map}

-- a blank and a field, for each of the fields
abbrev pub spaced : List (List ℕ) → List ℕ
spaced fields = flat_map (λ field. 32 ∷ field) fields
