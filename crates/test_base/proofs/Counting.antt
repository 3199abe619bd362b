-- A pair of counters stays the state of its history by one entry more.
use Rattle.std.proofs.Common.{◌≡◌, ℕ, List, [], ◌∷◌, ◌++◌, ap, ◌∙◌}
use Rattle.std.specs.declared.option.Option.TheVariants.{Some}
use Rattle.histories.specs.Core.{reply, after}
use Rattle.histories.specs.declared.entry.Entry.{Entry}
use Rattle.histories.specs.History.{entry, state, Legal}
use Rattle.histories.proofs.Histories.{grows_legally, steps_once}
use Rattle.test_base.specs.declared.bump.Bump.{Bump}
use Rattle.test_base.specs.Counters.{test_counters, opening_counters}

pub one_more : (log : List (Entry Bump ℕ)) (l r x l' r' k : ℕ) (a : Bump) → Legal test_counters opening_counters log
    → state test_counters opening_counters log ≡ l ∷ r ∷ [] → reply test_counters (l ∷ r ∷ []) k a ≡ Some x
    → after test_counters (l ∷ r ∷ []) k a ≡ l' ∷ r' ∷ []
    → Legal test_counters opening_counters (log ++ entry k a x ∷ [])
    × (state test_counters opening_counters (log ++ entry k a x ∷ []) ≡ l' ∷ r' ∷ [])
one_more log l r x l' r' k a legal is answers leaves = (
  grows_legally test_counters opening_counters log (entry k a x) legal tt
      (ap (λ xs. reply test_counters xs k a) is ∙ answers),
  steps_once test_counters opening_counters log (entry k a x) ∙ (ap (λ xs. after test_counters xs k a) is ∙ leaves),
)
