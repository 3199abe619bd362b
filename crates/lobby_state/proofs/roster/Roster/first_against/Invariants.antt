use Rattle.std.proofs.Common.{◌≡◌, ℕ, ◌<◌, false, get_or}
use Rattle.lobby_state.specs.GoBoard.{is_against}
use Rattle.simul_control.specs.declared.place.Place.{Place}
use Rattle.lobby_state.proofs.roster.Roster.first_against.Given as goal

abbrev pub invariant-loop-at : goal.invariant-loop-at
invariant-loop-at l =
    (k : ℕ) (d : Place) → k < l.at → is_against l.self l.player (get_or l.places.rows k d) ≡ false
