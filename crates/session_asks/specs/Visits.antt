-- The games to which a session goes: those that it plays, and then those at which it looks on. This server's own.
use Rattle.std.specs.Prelude.{List, ◌++◌, map, None, Some}
use Rattle.simul_control.specs.declared.place.Place.{Place}
use Rattle.session_asks.specs.declared.visit.Visit.{Visit}

-- who plays at a place, and who looks on at its game
abbrev pub playing : Place → Visit
playing place = record { desk = place.desk; serial = place.serial; seat = Some place.seat }

abbrev pub looking : Place → Visit
looking place = record { desk = place.desk; serial = place.serial; seat = None }

-- the games of these places, and those of these at which the session looks on
abbrev pub all_visits : List Place → List Place → List Visit
all_visits places observed = map playing places ++ map looking observed
