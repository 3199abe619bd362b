-- What a Resume makes of a stored game. This server's own; that an adjourned game goes on with the position and the
-- times with which it was left is FIDE's (Laws, Guidelines I).
use Rattle.std.specs.Prelude.{◌≡◌, ℕ, ◌+◌, ◌≤◌, List, All, None, Some, slice_get}
use Rattle.std.specs.Option.{option_map}
use Rattle.clock_ledger.specs.Charges.{last_moment}
use Rattle.game_board.specs.Board.{Board, position_of}
use Rattle.game_records.specs.declared.stored_game.StoredGame.{StoredGame}
use Rattle.game_records.specs.Replays.{position_on}
use Rattle.lobby_shelf.specs.Numbers.{stored_game}
use Rattle.lobby_shelf.specs.declared.shelved.Shelved.{Shelved}
use Rattle.histories.specs.Core.{reply, after}
use Rattle.desk_boards.specs.Halves.{list_on}
use Rattle.linked_desk.specs.Desk.{GameState, DeskState}
use Rattle.linked_desk.specs.ShelfLaws.{IsOnAgain}
use Rattle.lobby_state.specs.declared.acts.PairAct.TheVariants.{Resume}
use Rattle.lobby_state.specs.Lobby.{LobbyState, member_of}
use Rattle.lobby_state.specs.Resume.{meant}
use Rattle.one_server.specs.declared.act.Act.TheVariants.{Pair}
use Rattle.one_server.specs.declared.act.Timed.{Timed}
use Rattle.one_server.specs.declared.part.Part.{Part}
use Rattle.one_server.specs.declared.part.Part.TheVariants.{Lobby as TheLobby, Desk as ADesk}
use Rattle.one_server.specs.declared.reply.PairReply.TheVariants.{Started}
use Rattle.one_server.specs.declared.reply.Reply.TheVariants as reply
use Rattle.one_server.specs.House.{house}

-- a stored game goes on at a desk since that moment: the terms, the players' names and the half-moves with their
-- charges are the stored ones, and so each board has its part of these, from which its clocks are told, and the
-- position to which they lead, with the men in hand; who is to move thinks from that moment on
pub record IsRestored (stored : StoredGame) (moment : ℕ) (game : GameState) : Type 0 where
  pub again : IsOnAgain stored moment game
  pub lists : All (λ (b : Board). b.list ≡ list_on b.number stored.halves) game.boards
  pub positions : All (λ (b : Board). position_of b ≡ position_on stored.terms.variant stored.halves b.number)
      game.boards

-- between two states a game was resumed at that moment by a session that named a player: it is the stored game of least
-- number in which both play, it has left the shelf, and it goes on at a desk that was vacant, under the next serial
pub record IsResumed (before later : List Part) (session moment : ℕ) (name : List ℕ) : Type 0 where
  pub lobby : LobbyState
  pub was : slice_get before 0 ≡ Some (TheLobby lobby)
  pub lobby_later : LobbyState
  pub is : slice_get later 0 ≡ Some (TheLobby lobby_later)
  pub number : ℕ
  pub least : option_map (λ (row : Shelved). row.number) (meant lobby (member_of lobby session) name) ≡ Some number
  pub stored : StoredGame
  pub lay : stored_game lobby.shelf.games number ≡ Some stored
  pub gone : stored_game lobby_later.shelf.games number ≡ None
  pub place : ℕ
  pub vacant : DeskState
  pub stood : slice_get before place ≡ Some (ADesk vacant)
  pub empty : vacant.game ≡ None
  pub desk : DeskState
  pub stands : slice_get later place ≡ Some (ADesk desk)
  pub game : GameState
  pub plays : desk.game ≡ Some game
  pub restored : IsRestored stored moment game
  pub serial : game.serial ≡ lobby.started + 1

-- the act by which a session names a player to resume a game, at its moment
abbrev pub resuming : List ℕ → ℕ → Timed
resuming name moment = record { moment = moment; act = Pair (Resume name) }

-- each Resume that is answered Started in this state resumes a game
abbrev pub ResumesAsLeft : List Part → Type 0
ResumesAsLeft parts =
    (session moment : ℕ) (name : List ℕ) → moment ≤ last_moment
    → reply house parts session (resuming name moment) ≡ Some (reply.Pair Started)
    → IsResumed parts (after house parts session (resuming name moment)) session moment name
