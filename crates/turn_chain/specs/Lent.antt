-- The parts that an act is lent.
use Rattle.std.specs.Prelude.{◌≡◌, ℕ, List, Some, slice_get}
use Rattle.histories.specs.Core.{Core}

module _ {P A R : Type 0} (c : Core P A R) where
  -- the part is the act's first part in some whole state
  abbrev pub IsFirst : A → P → Type 0
  IsFirst a p = (xs : List P) × c.whole xs × (slice_get xs (c.first a) ≡ Some p)

  -- the parts are the act's first and second part in some whole state
  abbrev pub AreBoth : ℕ → A → P → P → Type 0
  AreBoth k a p q =
      (xs : List P) × (s : ℕ) × c.whole xs × (slice_get xs (c.first a) ≡ Some p) × (c.second p k a ≡ Some s)
      × (slice_get xs s ≡ Some q)
