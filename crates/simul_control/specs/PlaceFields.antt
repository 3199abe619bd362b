-- How the places of a player lie in their columns.
use Rattle.std.specs.Prelude.{◌≡◌, ℕ, ◌-◌, ◌≤◌, List, [], ◌∷◌, ◌++◌, length, map, take, replicate}
use Rattle.std.proofs.Common.{sym}
use Rattle.simul_control.specs.declared.place.Place.{Place}
use Rattle.simul_control.specs.declared.places.Places.TheInside.{Inside}
use Rattle.simul_control.specs.Places.{AreAtDesks, PlaceList}

-- a column of 32 with what these places have there at its front, and 0 behind that
abbrev pub column_of : (Place → ℕ) → List Place → List ℕ
column_of told rows = map told rows ++ replicate (32 - length rows) 0

-- the places whose desks, seats and serials stand in three columns
abbrev pub placed : List ℕ → List ℕ → List ℕ → List Place
placed (desk ∷ desks) (seat ∷ seats) (serial ∷ serials) =
    record { desk = desk; serial = serial; seat = seat } ∷ placed desks seats serials
placed _ _ _ = []

-- the places are what the first `count` of each column tell
abbrev pub rows_in : Inside → List Place
rows_in p = placed (take p.count p.desks) (take p.count p.seats) (take p.count p.serials)

abbrev pub places_in : Inside → PlaceList
places_in p = record { giving = p.giving; at = p.at; rows = rows_in p }

-- behind the first `count` there is nothing in any column; the present place is one of these, if there are any; and
-- each is at a desk of the hall
pub record HoldsPlaces (p : Inside) : Type 0 where
  pub counted : p.count ≡ length (rows_in p)
  pub desks : p.desks ≡ column_of (λ place. place.desk) (rows_in p)
  pub seats : p.seats ≡ column_of (λ place. place.seat) (rows_in p)
  pub serials : p.serials ≡ column_of (λ place. place.serial) (rows_in p)
  pub most : p.count ≤ 32
  pub present : p.at ≤ p.count - 1
  pub at_desks : AreAtDesks (rows_in p)

-- the fields that some places have
abbrev pub fields_of : PlaceList → Inside
fields_of places = record {
  giving = places.giving;
  at = places.at;
  count = length places.rows;
  desks = column_of (λ place. place.desk) places.rows;
  seats = column_of (λ place. place.seat) places.rows;
  serials = column_of (λ place. place.serial) places.rows;
}

-- the fields are told by the places that they hold
pub fields_of-places_in : (p : Inside) → HoldsPlaces p → fields_of (places_in p) ≡ p
fields_of-places_in p h = λ i. record {
  giving = p.giving;
  at = p.at;
  count = sym h.counted i;
  desks = sym h.desks i;
  seats = sym h.seats i;
  serials = sym h.serials i;
}
