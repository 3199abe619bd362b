-- What one act of a session makes of what the session has seen, whoever runs it.
use Rattle.std.specs.Prelude.{◌≡◌, ℕ, List, [], ◌∷◌, ◌++◌}
use Rattle.histories.specs.declared.entry.Entry.{Entry}
use Rattle.histories.specs.Core.{Core}
use Rattle.histories.specs.History.{IsPrefix, calls_of, entry, Legal}

module _ {P A R : Type 0} (c : Core P A R) where
  -- the session was answered: what it has seen begins with what it had seen, is legal, and ends with this act and this
  -- reply; and what it has made are its own entries there, one more than before
  pub record Ran (opening : List P) (number : ℕ) (act : A) (reply : R)
      (seen made seen_now made_now : List (Entry A R)) : Type 0 where
    pub others : List (Entry A R)
    pub ends : seen_now ≡ (seen ++ others) ++ entry number act reply ∷ []
    pub legal : Legal c opening seen_now
    pub own : made_now ≡ calls_of number seen_now
    pub more : made_now ≡ made ++ entry number act reply ∷ []

  -- the session's act wasn't made: what it has seen begins with what it had seen and is legal, without a new entry of
  -- its own
  pub record Unmade (opening : List P) (number : ℕ) (seen made seen_now made_now : List (Entry A R)) : Type 0 where
    pub begins : IsPrefix seen seen_now
    pub legal : Legal c opening seen_now
    pub own : made_now ≡ calls_of number seen_now
    pub same : made_now ≡ made
