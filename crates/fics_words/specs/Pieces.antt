-- A text of bytes, cut at its line feeds.
use Rattle.std.specs.Prelude.{◌≡◌, ℕ, Bool, false, not, ◌&&◌, ◌==◌, List, [], ◌∷◌}
use Rattle.std.specs.List.{slice_split, AllByRecursion}

-- CR and NUL aren't part of any line
abbrev pub is_kept : ℕ → Bool
is_kept b = not (b == 13) && not (b == 0)

-- the pieces between the line feeds
abbrev pub pieces : List ℕ → List (List ℕ)
pieces text = slice_split (λ b. b == 10) text

-- no byte is a line feed
abbrev pub IsUnbroken : List ℕ → Type 0
IsUnbroken part = AllByRecursion (λ c. (c == 10) ≡ false) part

-- all but the last
abbrev pub but_last : List (List ℕ) → List (List ℕ)
but_last [] = []
but_last (x ∷ []) = []
but_last (x ∷ y ∷ xs) = x ∷ but_last (y ∷ xs)

-- the last
abbrev pub last_of : List (List ℕ) → List ℕ
last_of [] = []
last_of (x ∷ []) = x
last_of (x ∷ y ∷ xs) = last_of (y ∷ xs)
