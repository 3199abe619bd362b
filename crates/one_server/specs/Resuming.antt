-- A game leaves the shelf and goes on at a desk. This server's own.
use Rattle.std.specs.Prelude.{◌≡◌, ℕ, Option, None, Some, unwrap_or}
use Rattle.fics_words.specs.declared.seats.Seats.{Seats}
use Rattle.game_records.specs.declared.stored_game.StoredGame.{StoredGame}
use Rattle.game_records.specs.Replays.{Replays}
use Rattle.lobby_shelf.specs.Numbers.{stored_game}
use Rattle.linked_desk.specs.Desk.{DeskState}
use Rattle.linked_desk.specs.Restore.{restored}
use Rattle.linked_desk.specs.Seating.{AllDiffer, HasPairsFor, names_of, sessions_seated}
use Rattle.linked_desk.specs.Shelve.{names_seated}
use Rattle.lobby_state.specs.Lobby.{LobbyState}

-- the desk once this game is restored there
abbrev pub desk_with_game : DeskState → ℕ → Option StoredGame → Seats → ℕ → DeskState
desk_with_game desk serial None seats moment = desk
desk_with_game desk serial (Some game) seats moment = unwrap_or (restored desk serial game seats moment) desk

-- the desk once the game of that number is restored there from the shelf
abbrev pub resume_desk : LobbyState → DeskState → ℕ → ℕ → Seats → ℕ → DeskState
resume_desk lobby desk serial number seats moment =
    desk_with_game desk serial (stored_game lobby.shelf.games number) seats moment

-- the game of that number can be resumed at this desk: it lies on the shelf, and replays; the desk is vacant; no two of
-- the players are one, and they are those of the game, as many as its variant has
pub record CanResumeAt (lobby : LobbyState) (desk : DeskState) (number : ℕ) (seats : Seats) : Type 0 where
  pub game : StoredGame
  pub lies : stored_game lobby.shelf.games number ≡ Some game
  pub replays : Replays game
  pub vacant : desk.game ≡ None
  pub sessions : AllDiffer (sessions_seated seats)
  pub names : AllDiffer (names_of seats)
  pub players : names_seated seats ≡ game.names
  pub pairs : HasPairsFor game.terms seats
