-- What the lobby and the server's rules ask of a desk. This server's own.
use Rattle.std.specs.Prelude.{ℕ, Bool, false, ◌==◌, ◌&&◌, is_some, Option, None, Some}
use Rattle.std.specs.Option.{option_map}
use Rattle.lobby_state.specs.declared.game.ListedGame.{ListedGame}
use Rattle.linked_desk.specs.Desk.{DeskState, Occupant, occupant_of, serial_of, ended_at, viewer_count}

-- who plays at a desk, as the lobby lists it: the serial, the terms and the seats
abbrev pub listing : Occupant → ListedGame
listing o = record { serial = o.serial; terms = o.terms; seats = o.seats }

-- the game that the desk is in use for, as the lobby lists it; none where the desk is vacant
abbrev pub listed_game : DeskState → Option ListedGame
listed_game desk = option_map listing (occupant_of desk)

-- there is a serial and it is this one
abbrev pub is_serial : ℕ → Option ℕ → Bool
is_serial serial None = false
is_serial serial (Some another) = another == serial

-- the game of this serial stands at the desk and has ended
abbrev pub has_ended : DeskState → ℕ → Bool
has_ended desk serial = is_serial serial (serial_of desk) && is_some (ended_at desk)

-- nobody looks on at the desk any more
abbrev pub nobody_looks_on : DeskState → Bool
nobody_looks_on desk = viewer_count desk == 0

-- a desk without a game
abbrev pub vacant : ℕ → DeskState
vacant number = record { number = number; game = None }

-- the desk once it is vacant again
abbrev pub desk_emptied : DeskState → DeskState
desk_emptied desk = record desk { game = None }
