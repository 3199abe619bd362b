-- InUse: a steward asks which desks are in use, and under which serials. This server's own.
use Rattle.std.specs.Prelude.{◌≡◌, ◌↔◌, ℕ, ◌+◌, ◌<◌, zero, suc, true, List, [], ◌∷◌, ◌++◌, Contains, Option, None, Some}
use Rattle.std.specs.List.{AllPairs}
use Rattle.fics_words.specs.Effect.{Effect}
use Rattle.lobby_state.specs.declared.acts.LobbyReply.{LobbyReply}
use Rattle.lobby_state.specs.declared.acts.LobbyReply.TheVariants.{Desks}
use Rattle.lobby_state.specs.declared.desk_in_use.DeskInUse.{DeskInUse}
use Rattle.lobby_state.specs.declared.game.ListedGame.{ListedGame}
use Rattle.lobby_state.specs.Desks.{IsDesk, desks}
use Rattle.lobby_state.specs.Lobby.{LobbyState, game_at}

-- the desk is in use for a game of this serial
pub record IsInUse (lobby : LobbyState) (row : DeskInUse) : Type 0 where
  pub is_desk : IsDesk row.desk
  pub game : ListedGame
  pub there : game_at lobby row.desk ≡ Some game
  pub serial : game.serial ≡ row.serial

-- the rows are the desks in use with their serials, each of them once, in ascending order
pub record AreDesksInUse (lobby : LobbyState) (rows : List DeskInUse) : Type 0 where
  pub listed : (row : DeskInUse) → Contains rows row ↔ IsInUse lobby row
  pub ascending : AllPairs (λ one another. one.desk < another.desk) rows

-- the row of a desk, where it is in use
abbrev pub row_of : ℕ → Option ListedGame → List DeskInUse
row_of desk None = []
row_of desk (Some game) = record { desk = desk; serial = game.serial } ∷ []

-- the rows of the desks from 1 up to this number
abbrev pub rows_to : LobbyState → ℕ → List DeskInUse
rows_to lobby zero = []
rows_to lobby (suc desk) = rows_to lobby desk ++ row_of (desk + 1) (game_at lobby (desk + 1))

-- the rows of all desks
unfoldable pub desks_in_use : LobbyState → List DeskInUse
desks_in_use lobby = rows_to lobby desks

-- an InUse is never refused: it tells the desks in use
abbrev pub in_use_effect : LobbyState → Effect LobbyState LobbyReply
in_use_effect lobby = record { causes = []; memory = true; reply = Desks (desks_in_use lobby); after = lobby }
