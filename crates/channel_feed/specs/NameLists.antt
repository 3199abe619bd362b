-- A player's list of names, by their keys in the order of adding. This server's own.
use Rattle.std.specs.Prelude.{ℕ, Bool, true, false, not, bytes_eq, nat_le, List, [], ◌∷◌, ◌++◌, length}
use Rattle.std.specs.List.{filter, list_any}
use Rattle.fics_words.specs.Effect.{Effect}
use Rattle.fics_words.specs.declared.refusal.Refusal.TheVariants.{OnList, ListFull, NotOnList}

-- the handle of this key is on the list
abbrev pub is_listed : List (List ℕ) → List ℕ → Bool
is_listed names key = list_any (λ other. bytes_eq other key) names

-- adding is refused where the handle is on the list, and where 100 are; else it stands last
abbrev pub adding : List (List ℕ) → List ℕ → Effect (List (List ℕ)) (Unit {0})
adding names key = record {
  causes = (is_listed names key, OnList) ∷ (nat_le 100 (length names), ListFull) ∷ [];
  memory = true;
  reply = tt;
  after = names ++ key ∷ [];
}

-- the names without this one
abbrev pub without_name : List ℕ → List (List ℕ) → List (List ℕ)
without_name key names = filter (λ other. not (bytes_eq other key)) names

-- removing is refused where the handle isn't on the list
abbrev pub removing : List (List ℕ) → List ℕ → Effect (List (List ℕ)) (Unit {0})
removing names key = record {
  causes = (not (is_listed names key), NotOnList) ∷ [];
  memory = false;
  reply = tt;
  after = without_name key names;
}
