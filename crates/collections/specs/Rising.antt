-- Items in the order of their numbers, and the first number that none of them has. This server's own.
use Rattle.std.specs.Prelude.{◌≡◌, ℕ, ◌+◌, ◌<◌, ◌==◌, Bool, true, false, if◌then◌else◌, List, [], ◌∷◌, refl}
use Rattle.std.specs.List.{list_any}

-- items with a number each
module _ {A : Type 0} (number : A → ℕ) where
  -- an item has that number
  abbrev pub is_used : List A → ℕ → Bool
  is_used items n = list_any (λ item. number item == n) items

  -- the numbers rise from item to item, all of them above the lower bound and below the upper one
  abbrev pub RiseAbove : ℕ → ℕ → List A → Type 0
  RiseAbove upper lower [] = Unit {0}
  RiseAbove upper lower (item ∷ items) =
      (lower < number item) × (number item < upper) × RiseAbove upper (number item) items

  -- the number is the least positive one that no item has
  pub record IsLeastUnused (items : List A) (n : ℕ) : Type 0 where
    pub positive : 0 < n
    pub unused : is_used items n ≡ false
    pub least : (k : ℕ) → 0 < k → k < n → is_used items k ≡ true

  -- the first number from this one on that rising numbers leave out
  abbrev pub first_gap : ℕ → List A → ℕ
  first_gap n [] = n
  first_gap n (item ∷ items) = if number item == n then first_gap (n + 1) items else n

-- of 1, 2 and 4 the first number that is left out is 3
example_gap : first_gap (λ n. n) 1 (1 ∷ 2 ∷ 4 ∷ []) ≡ 3
example_gap = refl
