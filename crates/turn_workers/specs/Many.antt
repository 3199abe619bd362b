-- What a worker did.
use Rattle.std.specs.Prelude.{◌≡◌, ℕ, ◌+◌, ◌*◌, List, [], ◌∷◌}
use Rattle.histories.specs.declared.entry.Entry.{Entry}
use Rattle.turn_table.specs.declared.view.View.{View}
use Rattle.turn_counters.specs.Worked.{Keeps}
use Rattle.turn_counters.specs.declared.bump.Bump.{Bump}

-- the weights of the acts of some entries, added up
abbrev pub weigh : (Bump → ℕ) → List (Entry Bump ℕ) → ℕ
weigh w [] = 0
weigh w (e ∷ es) = w e.act + weigh w es

-- n acts were made, each of them a, however they are weighed
pub record MadeMany (a : Bump) (n : ℕ) (v w : View ℕ Bump ℕ) : Type 0 where
  pub keeps : Keeps v w
  pub made : (f : Bump → ℕ) → weigh f w.made ≡ weigh f v.made + n * f a
