-- What a plan needs of memory, made ready beside the lobby, so that its share there is carried out without any. This
-- server's own.
use Rattle.std.specs.Prelude.{◌≡◌, ℕ, IsSome, Option, None, Some}
use Rattle.channel_feed.specs.Waiting.{with_line}
use Rattle.game_records.specs.Replays.{Replays}
use Rattle.game_records.specs.declared.stored_game.StoredGame.{StoredGame}
use Rattle.lobby_shelf.specs.Facts.{HasRoom}
use Rattle.lobby_shelf.specs.Shelf.{ShelfState, game_order, removal_order}
use Rattle.lobby_state.specs.declared.acts.Plan.{Plan}
use Rattle.lobby_state.specs.declared.acts.Plan.TheVariants.{Start, Clear, Resume, Ask}
use Rattle.lobby_state.specs.declared.reserve.Ready.{Ready}
use Rattle.lobby_state.specs.declared.reserve.Ready.TheVariants.{Nothing, Shelving, Resuming, Asking}
use Rattle.lobby_state.specs.Lobby.{LobbyState, game_at, waiting_of}
use Rattle.lobby_state.specs.Resumed.{ask_line}

-- the game that is made ready to go on the shelf, if one is
abbrev pub shelved_in : Ready → Option StoredGame
shelved_in (Shelving saving) = Some saving.game
shelved_in _ = None

-- the game may go on the shelf with this plan: it is a Clear of a desk in use, and the game replays
abbrev pub CanShelve : LobbyState → Plan → Option StoredGame → Type 0
CanShelve lobby plan None = Unit {0}
CanShelve lobby (Clear session desk serial) (Some game) = Replays game × IsSome (game_at lobby desk)
CanShelve lobby _ (Some game) = ⊥

-- the order for the game that goes on the shelf, if one does
abbrev pub shelving_for : ShelfState → Option StoredGame → Ready
shelving_for shelf None = Nothing
shelving_for shelf (Some game) = Shelving (record { game = game; order = game_order shelf game })

-- the request of the one, and the lines that wait for the other with the one that asks it
abbrev pub asking_for : LobbyState → ℕ → ℕ → ℕ → Ready
asking_for lobby from to number =
    Asking (record { by = from; game = number }) (with_line (ask_line lobby from) (waiting_of lobby to))

-- what a plan needs: a Clear the order for the game that goes on the shelf, if one does; a Resume the order for the
-- game that leaves it; and an Ask the request, and the lines that then wait for the other
abbrev pub ready_for : LobbyState → Plan → Option StoredGame → Ready
ready_for lobby (Start desk serial terms seats) shelved = Nothing
ready_for lobby (Clear session desk serial) shelved = shelving_for lobby.shelf shelved
ready_for lobby (Resume desk serial number terms seats) shelved = Resuming (removal_order lobby.shelf number)
ready_for lobby (Ask from to number) shelved = asking_for lobby from to number

-- there is room for the order or the request
abbrev pub HasRoomFor : LobbyState → Ready → Type 0
HasRoomFor lobby Nothing = Unit {0}
HasRoomFor lobby (Shelving saving) = HasRoom lobby.shelf.orders
HasRoomFor lobby (Resuming order) = HasRoom lobby.shelf.orders
HasRoomFor lobby (Asking request lines) = HasRoom lobby.shelf.requests

-- all that the plan needs is ready
pub record IsReady (lobby : LobbyState) (plan : Plan) (ready : Ready) : Type 0 where
  pub shelving : CanShelve lobby plan (shelved_in ready)
  pub is : ready ≡ ready_for lobby plan (shelved_in ready)
  pub room : HasRoomFor lobby ready
