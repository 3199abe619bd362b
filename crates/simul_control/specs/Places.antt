-- The places of a player: the seats that it has at desks in use, which of them is the present one, and whether it gives
-- a simul. This server's own.
use Rattle.std.specs.Prelude.{◌≡◌, ℕ, ◌+◌, ◌-◌, ◌==◌, Bool, false, not, ◌||◌, cond, nat_le, nat_lt, List, [], ◌∷◌, ◌++◌, All, length, take, count_by, None, Some, Result, Ok, Err}
use Rattle.std.specs.List.{filter, list_any}
use Rattle.fics_words.specs.Effect.{Effect, first_cause, state_of}
use Rattle.fics_words.specs.declared.refusal.Refusal.{Refusal}
use Rattle.fics_words.specs.declared.refusal.Refusal.TheVariants.{NotGiving, Playing, SimulFull}
use Rattle.simul_control.specs.declared.place.Place.{Place}
use Rattle.simul_control.specs.declared.direction.Direction.{Direction}
use Rattle.simul_control.specs.declared.direction.Direction.TheVariants.{Next, Previous}
use Rattle.fics_words.specs.Desks.{IsDesk}

-- whether the player gives a simul; and its places in the order in which they came, of which `at` counts the present
-- one from 0, and is 0 where there is none
pub record PlaceList : Type 0 where
  pub giving : Bool
  pub at : ℕ
  pub rows : List Place

-- the most places that a player has
abbrev pub most_places : ℕ
most_places = 32

-- each of the places is at a desk of the hall
abbrev pub AreAtDesks : List Place → Type 0
AreAtDesks rows = All (λ place. IsDesk place.desk) rows

-- no places, of a player that gives no simul
abbrev pub no_places : PlaceList
no_places = record { giving = false; at = 0; rows = [] }

-- a call makes a change of the places: it leaves what the change makes, where no cause stands against it; else it gives
-- the first cause that does, and changes nothing
abbrev pub Makes : Effect PlaceList (Unit {0}) → PlaceList → PlaceList → Result (Unit {0}) Refusal → Type 0
Makes change old new (Ok done) = (first_cause change.causes ≡ None) × (new ≡ change.after)
Makes change old new (Err cause) = (first_cause change.causes ≡ Some cause) × (new ≡ old)

-- there is no room for one more
abbrev pub are_places_full : PlaceList → Bool
are_places_full places = nat_le most_places (length places.rows)

-- adding a place behind the others: refused where there is no room; the present place stays
abbrev pub adding_place : Place → PlaceList → Effect PlaceList (Unit {0})
adding_place place places = record {
  causes = (are_places_full places, SimulFull) ∷ [];
  memory = false;
  reply = tt;
  after = record places { rows = places.rows ++ place ∷ [] };
}

-- the places once it was added, or as they were
abbrev pub with_place : Place → PlaceList → PlaceList
with_place place places = state_of places (adding_place place places)

-- another desk than this one
abbrev pub is_other : ℕ → ℕ → Bool
is_other desk other = not (other == desk)

-- the place is at this desk
abbrev pub is_at : ℕ → Place → Bool
is_at desk place = place.desk == desk

-- the place isn't at this desk
abbrev pub is_elsewhere : ℕ → Place → Bool
is_elsewhere desk place = is_other desk place.desk

-- the number of the present place, which is the first place's where it would be behind the last
abbrev pub within : ℕ → List Place → ℕ
within at rows = cond (nat_lt at (length rows)) at 0

-- the places without those at this desk; the present one moves down by those that stood before it, and stays where
-- there is none at this desk
abbrev pub without_desk : ℕ → PlaceList → PlaceList
without_desk desk places =
    let rows = filter (is_elsewhere desk) places.rows in
    let before = count_by (is_elsewhere desk) (take places.at places.rows) in
    record {
      giving = places.giving;
      at = cond (list_any (is_at desk) places.rows) (within before rows) places.at;
      rows = rows;
    }

-- the places where that of this number is the present one
abbrev pub present_at : ℕ → PlaceList → PlaceList
present_at at places = record places { at = at }

-- the number of the next or the previous place in a circle of so many: the first follows the last
abbrev pub turned_from : Direction → ℕ → ℕ → ℕ
turned_from Next count at = cond (nat_lt (at + 1) count) (at + 1) 0
turned_from Previous count at = cond (at == 0) (count - 1) (at - 1)

-- there is no board of a simul: the player gives none, or has no place
abbrev pub gives_nowhere : PlaceList → Bool
gives_nowhere places = not places.giving || (length places.rows == 0)

-- turning to the next or the previous place: refused where there is no board of a simul
abbrev pub turning_place : Direction → PlaceList → Effect PlaceList (Unit {0})
turning_place way places = record {
  causes = (gives_nowhere places, NotGiving) ∷ [];
  memory = false;
  reply = tt;
  after = record places { at = turned_from way (length places.rows) places.at };
}

-- how many places a player may have as it begins or ends a simul: none as it begins, and one as it ends
abbrev pub most_at_switch : Bool → ℕ
most_at_switch giving = cond giving 1 0

-- beginning to give a simul, or ending it: refused where there are more places than that
abbrev pub switching : PlaceList → Effect PlaceList (Unit {0})
switching places = record {
  causes = (nat_lt (most_at_switch places.giving) (length places.rows), Playing) ∷ [];
  memory = false;
  reply = tt;
  after = record places { giving = not places.giving };
}
