-- Games in a row that rises.
use Rattle.std.proofs.Common.{arith, ◌≡◌, ℕ, zero, suc, ◌<◌, ◌^◌, List, [], ◌∷◌, length, get_or, refl, ap, inl, inr}
use Rattle.std.specs.Prelude.{◌⊎◌, Contains}
use Rattle.lobby_shelf.specs.declared.shelved.Shelved.{Shelved}
use Rattle.lobby_shelf.specs.Numbers.{RiseAbove}
use Rattle.lobby_shelf.proofs.Rising.{rises_at}

-- the first of a row, and those behind it
pub contains_first : (row : Shelved) (games : List Shelved) → Contains (row ∷ games) row
contains_first row games = (0, omega arith, refl)

pub contains_behind : (row another : Shelved) (games : List Shelved) → Contains games another
    → Contains (row ∷ games) another
contains_behind row another games c = (suc c.0, omega (arith, c.1), c.2)

pub contains_cases : (row another : Shelved) (games : List Shelved) → Contains (row ∷ games) another
    → (row ≡ another) ⊎ Contains games another
contains_cases row another games c = at c.0 c.1 c.2
  where
    at : (k : ℕ) → k < length (row ∷ games) → get_or (row ∷ games) k another ≡ another
        → (row ≡ another) ⊎ Contains games another
    at zero h e = inl e
    at (suc k) h e = inr (k, omega arith, e)

pub contains_none : (row : Shelved) → Contains [] row → ⊥
contains_none row c = let none = c.1 in omega (arith, none)

-- those in a row that rises are above its start, and below 2^64
pub contains_above : (low : ℕ) (games : List Shelved) (row : Shelved) → RiseAbove low games → Contains games row
    → low < row.number
contains_above low games row rise c =
    let above = rises_at low games c.0 row rise c.1 in
    let same = ap (λ (x : Shelved). x.number) c.2 in
    omega (arith, above, same)

pub contains_small : (low : ℕ) (games : List Shelved) (row : Shelved) → RiseAbove low games → Contains games row
    → row.number < 2 ^ 64
contains_small low [] row rise c = absurd (contains_none row c)
contains_small low (first ∷ games) row rise c =
    by (contains_cases first row games c) (λ behind. contains_small first.number games row rise.2 behind)
  where
    by : (first ≡ row) ⊎ Contains games row → (Contains games row → row.number < 2 ^ 64) → row.number < 2 ^ 64
    by (inl e) rest = let same = ap (λ (x : Shelved). x.number) e in let small = rise.1 in omega (arith, small, same)
    by (inr behind) rest = rest behind
