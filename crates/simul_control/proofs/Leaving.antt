-- Who has no place at a desk leaves nothing there.
use Rattle.std.proofs.Common.{◌≡◌, ◌||◌, ℕ, true, false, not, cond, List, [], ◌∷◌, map, take, filter, refl, sym, ap}
use Rattle.std.specs.Prelude.{◌==◌}
use Rattle.std.specs.List.{count_by, list_any}
use Rattle.simul_control.specs.declared.place.Place.{Place}
use Rattle.simul_control.specs.Places.{PlaceList, is_at, is_elsewhere, within, without_desk}

pub any-desks : (desk : ℕ) (rows : List Place)
    → list_any (λ other. other == desk) (map (λ row. row.desk) rows) ≡ list_any (is_at desk) rows
any-desks desk [] = refl
any-desks desk (row ∷ rows) = ap (λ t. (row.desk == desk) || t) (any-desks desk rows)

all_left : (desk : ℕ) (rows : List Place) → list_any (is_at desk) rows ≡ false → filter (is_elsewhere desk) rows ≡ rows
all_left desk [] none = refl
all_left desk (row ∷ rows) none =
    elim (row.desk == desk)
    as (λ t.
    (t || list_any (is_at desk) rows) ≡ false
    → cond (not t) (row ∷ filter (is_elsewhere desk) rows) (filter (is_elsewhere desk) rows) ≡ row ∷ rows) [
      | true ↦ λ h. absurd (let bad : true ≡ false = h in cc)
      | false ↦ λ h. ap (λ l. row ∷ l) (all_left desk rows h)
    ] none

-- the places stay as they are, whole
pub nothing_left : (desk : ℕ) (places : PlaceList) → list_any (is_at desk) places.rows ≡ false
    → places ≡ without_desk desk places
nothing_left desk places none =
    let before = count_by (is_elsewhere desk) (take places.at places.rows) in
    let rows = all_left desk places.rows none in
    let at : cond (list_any (is_at desk) places.rows) (within before (filter (is_elsewhere desk) places.rows)) places.at
    ≡ places.at =
    ap (λ t. cond t (within before (filter (is_elsewhere desk) places.rows)) places.at) none in
    λ j. record { giving = places.giving; at = sym at j; rows = sym rows j }
