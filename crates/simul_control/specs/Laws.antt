-- Laws of the circle in which a giver turns. This server's own.
use Rattle.std.specs.Prelude.{◌≡◌, ℕ, zero, suc, length}
use Rattle.simul_control.specs.declared.direction.Direction.{Direction}
use Rattle.simul_control.specs.declared.direction.Direction.TheVariants.{Next, Previous}
use Rattle.simul_control.specs.Places.{PlaceList, turned_from}

-- the number of the place after so many turns that way in a circle of so many places
abbrev pub turned_often : ℕ → Direction → ℕ → ℕ → ℕ
turned_often zero way count at = at
turned_often (suc turns) way count at = turned_often turns way count (turned_from way count at)

-- as many turns as there are places, either way, come back to the present place
abbrev pub ComeRound : PlaceList → Type 0
ComeRound places = (way : Direction) → turned_often (length places.rows) way (length places.rows) places.at ≡ places.at

-- a turn back undoes a turn on, and a turn on undoes a turn back
pub record UndoEachOther (places : PlaceList) : Type 0 where
  pub back : turned_from Previous (length places.rows) (turned_from Next (length places.rows) places.at) ≡ places.at
  pub on : turned_from Next (length places.rows) (turned_from Previous (length places.rows) places.at) ≡ places.at
