-- The members who are the players of a game. This server's own.
use Rattle.std.specs.Prelude.{ℕ, Bool, false, List, [], ◌∷◌, Option, None, Some}
use Rattle.std.specs.List.{list_any}
use Rattle.fics_words.specs.Seats.{plays_as, seat_list}
use Rattle.fics_words.specs.declared.player.Player.{Player}
use Rattle.tables.specs.Rows.{change_first}
use Rattle.lobby_state.specs.declared.game.ListedGame.{ListedGame}
use Rattle.lobby_state.specs.declared.member.Member.{Member}
use Rattle.lobby_state.specs.Lobby.{is_session}

-- the members with those of these players changed, one after another
abbrev pub change_players : (Member → Member) → List Player → List Member → List Member
change_players change [] members = members
change_players change (player ∷ players) members =
    change_players change players (change_first (is_session player.session) change members)

-- the session plays in the game, if there is one
abbrev pub plays_in : Option ListedGame → ℕ → Bool
plays_in None session = false
plays_in (Some game) session = list_any (plays_as session) (seat_list game.seats)
