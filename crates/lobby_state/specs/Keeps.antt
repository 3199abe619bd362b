-- What acts keep, and what plans keep: one record each, which is proved act by act and plan by plan, and from which the
-- parts of the server above the lobby learn all that they need of any act. This server's own.
use Rattle.std.specs.Prelude.{◌≡◌, ◌≢◌, ℕ, ◌-◌, ◌≤◌, All, Bool, IfSome, Option, Some, slice_get}
use Rattle.fics_words.specs.Effect.{Effect, NoneHolds}
use Rattle.game_records.specs.declared.stored_game.StoredGame.{StoredGame}
use Rattle.lobby_state.specs.declared.acts.LobbyReply.{LobbyReply}
use Rattle.lobby_state.specs.declared.acts.LobbyReply.TheVariants.{Done, Entered, NeedPassword, Lines, Places, Waiting, Desks, Told, Number, Asked, Found, Orders}
use Rattle.lobby_state.specs.declared.acts.Plan.{Plan}
use Rattle.lobby_state.specs.declared.game.ListedGame.{ListedGame}
use Rattle.lobby_state.specs.Desks.{IsDesk}
use Rattle.lobby_state.specs.Lobby.{LobbyState}
use Rattle.lobby_state.specs.Places.{AreAtDesks}
use Rattle.lobby_state.specs.Plans.{committed, desk_of, game_after}
use Rattle.lobby_state.specs.Reserve.{CanShelve}
use Rattle.lobby_state.specs.WellFormed.{IsWellFormed}

-- each place and each desk that the reply tells is at a desk from 1 to 128
abbrev pub TellsDesks : LobbyReply → Type 0
TellsDesks Done = Unit {0}
TellsDesks (Entered name) = Unit {0}
TellsDesks NeedPassword = Unit {0}
TellsDesks (Number number) = Unit {0}
TellsDesks Asked = Unit {0}
TellsDesks (Lines lines) = Unit {0}
TellsDesks (Told count) = Unit {0}
TellsDesks (Found place) = IsDesk place.desk
TellsDesks (Places places) = AreAtDesks places.rows
TellsDesks (Waiting lines places) = AreAtDesks places.rows
TellsDesks (Desks desks) = All (λ row. IsDesk row.desk) desks
TellsDesks (Orders orders) = Unit {0}

-- what a lobby act keeps that is made under these conditions: it leaves a lobby well-formed, it starts and ends no
-- game, and it tells of desks alone
pub record KeepsWhere (conditions : Type 0) (lobby : LobbyState) (effect : Effect LobbyState LobbyReply) : Type 0 where
  pub formed : conditions → NoneHolds effect.causes → IsWellFormed lobby → IsWellFormed effect.after
  pub games : effect.after.games ≡ lobby.games
  pub tells : IsWellFormed lobby → TellsDesks effect.reply

-- what a plan that can be carried out keeps: its desk is one of the hall's, it leaves a lobby well-formed, and it
-- changes the game of no desk but its own
pub record KeepsPlan (lobby : LobbyState) (plan : Plan) : Type 0 where
  pub is_desk : IfSome (desk_of plan) IsDesk
  pub formed : (game : Option StoredGame) (is_cleared : Bool) → CanShelve lobby plan game → IsWellFormed lobby
      → IsWellFormed (committed lobby plan game is_cleared)
  pub own : (game : Option StoredGame) (is_cleared : Bool) (number : ℕ) (before : Option ListedGame)
      → desk_of plan ≡ Some number → slice_get lobby.games (number - 1) ≡ Some before
      → slice_get (committed lobby plan game is_cleared).games (number - 1) ≡ Some (game_after plan is_cleared before)
  pub others : (game : Option StoredGame) (is_cleared : Bool) (number : ℕ) → 1 ≤ number → desk_of plan ≢ Some number
      → slice_get (committed lobby plan game is_cleared).games (number - 1) ≡ slice_get lobby.games (number - 1)
