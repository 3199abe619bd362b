-- Clear: a player leaves the place at a desk whose game has ended, and the desk is freed by the last one. This
-- server's own.
use Rattle.std.specs.Prelude.{ℕ, ◌-◌, false, [], IsTrue, map, None, Option, slice_set}
use Rattle.std.specs.List.{list_any}
use Rattle.fics_words.specs.Effect.{Effect}
use Rattle.tables.specs.Rows.{change_first}
use Rattle.lobby_state.specs.declared.acts.Plan.{Plan}
use Rattle.lobby_state.specs.declared.acts.Plan.TheVariants.{Clear}
use Rattle.lobby_state.specs.declared.game.ListedGame.{ListedGame}
use Rattle.lobby_state.specs.declared.member.Member.{Member}
use Rattle.lobby_state.specs.Lobby.{LobbyState, is_session}
use Rattle.lobby_state.specs.Places.{is_at, without_desk}
use Rattle.lobby_state.specs.Players.{plays_in}

-- a Clear is never refused by the lobby: what there is to clear, the desk knows
abbrev pub clear_effect : LobbyState → ℕ → ℕ → ℕ → Effect LobbyState Plan
clear_effect lobby session desk serial =
    record { causes = []; memory = false; reply = Clear session desk serial; after = lobby }

-- the member without a place at this desk
abbrev pub off_desk : ℕ → Member → Member
off_desk desk member = record member { places = without_desk desk member.places }

-- who has a place at the desk plays in the game there
abbrev pub PlaysThere : ℕ → Option ListedGame → Member → Type 0
PlaysThere desk game member = IsTrue (list_any (is_at desk) member.places.rows) → IsTrue (plays_in game member.session)

-- the lobby where the session has no place at the desk, which is still in use
abbrev pub freed : LobbyState → ℕ → ℕ → LobbyState
freed lobby session desk =
    record lobby { members = change_first (is_session session) (off_desk desk) lobby.members }

-- the lobby where the desk is free, and nobody has a place there
abbrev pub cleared : LobbyState → ℕ → LobbyState
cleared lobby desk = record lobby {
  members = map (off_desk desk) lobby.members;
  games = slice_set lobby.games (desk - 1) None;
}
