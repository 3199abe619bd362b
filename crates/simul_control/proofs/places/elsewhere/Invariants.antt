use Rattle.std.proofs.Common.{◌≡◌, take, filter}
use Rattle.simul_control.specs.Places.{is_elsewhere}
use Rattle.simul_control.proofs.places.elsewhere.Given as goal

abbrev pub invariant-loop-at : goal.invariant-loop-at
invariant-loop-at l =
    l.kept
    ≡ record { giving = l.places.giving; at = 0; rows = filter (is_elsewhere l.fn.desk) (take l.at l.places.rows) }
