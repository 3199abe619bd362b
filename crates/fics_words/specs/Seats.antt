-- Who sits at a desk. The seats are numbered from 0: White and Black of the first board, then White and Black of the
-- second board of a pair. This server's own.
use Rattle.std.specs.Prelude.{ℕ, ◌==◌, ◌&&◌, Bool, true, false, not, List, [], ◌∷◌, ◌++◌, Option, None, Some, is_some}
use Rattle.std.specs.List.{list_all, position}
use Rattle.std.specs.Option.{option_map_or}
use Rattle.fics_words.specs.declared.player.Player.{Player}
use Rattle.fics_words.specs.declared.seats.Opponents.{Opponents}
use Rattle.fics_words.specs.declared.seats.Seats.{Seats}

-- the two players of a board, White first
abbrev pub players_of : Opponents → List Player
players_of opponents = opponents.white ∷ opponents.black ∷ []

-- the players in the order of their seats: two, or four where there is a second board
abbrev pub seat_list : Seats → List Player
seat_list seats = players_of seats.first ++ option_map_or players_of seats.second []

-- the player of this session
abbrev pub plays_as : ℕ → Player → Bool
plays_as session player = player.session == session

-- the number of the session's seat, if it has one
abbrev pub seat_number : ℕ → List Player → Option ℕ
seat_number session players = position (plays_as session) players

-- two at their board: the first of them has White, or the second
abbrev pub facing : Bool → Player → Player → Opponents
facing true one another = record { white = one; black = another }
facing false one another = record { white = another; black = one }

-- two at the second board, where both are there
abbrev pub second_board : Bool → Option Player → Option Player → Option Opponents
second_board white (Some one) (Some another) = Some (facing white one another)
second_board _ _ _ = None

-- each player has an account
abbrev pub all_registered : Seats → Bool
all_registered seats = list_all (λ (p : Player). p.registered) (seat_list seats)

-- their game waits for whoever leaves: it has one board, and its players have accounts
abbrev pub waits : Seats → Bool
waits seats = not (is_some seats.second) && all_registered seats
