-- What an act did to the pass that made it.
use Rattle.std.specs.Prelude.{◌≡◌, ℕ, [], ◌∷◌, ◌++◌}
use Rattle.histories.specs.History.{entry}
use Rattle.turn_table.specs.declared.view.View.{View}
use Rattle.turn_counters.specs.declared.bump.Bump.{Bump}

-- what the pass keeps
pub record Keeps (v w : View ℕ Bump ℕ) : Type 0 where
  pub number : w.number ≡ v.number
  pub joined : w.joined ≡ v.joined
  pub idle : w.held ≡ []

-- one act was made
pub record MadeOne (a : Bump) (v w : View ℕ Bump ℕ) : Type 0 where
  pub keeps : Keeps v w
  pub reply : ℕ
  pub made : w.made ≡ v.made ++ entry v.number a reply ∷ []
