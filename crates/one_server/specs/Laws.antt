-- What holds in every state. This server's own.
use Rattle.std.specs.Prelude.{◌≡◌, ℕ, ◌-◌, List, All, None, Some, slice_get}
use Rattle.game_board.specs.Scoresheet.{IsTrueScore}
use Rattle.game_records.specs.Replays.{Replays}
use Rattle.lobby_shelf.specs.declared.shelved.Shelved.{Shelved}
use Rattle.lobby_shelf.specs.Facts.{OrdersRise}
use Rattle.histories.specs.History.{state, Legal}
use Rattle.desk_boards.specs.Sound.{GoOn}
use Rattle.linked_desk.specs.Desk.{GameState, DeskState}
use Rattle.linked_desk.specs.Sound.{NamesWinner}
use Rattle.linked_desk.specs.WholeSets.{HasWholeSets}
use Rattle.lobby_state.specs.Lobby.{LobbyState}
use Rattle.lobby_state.specs.WellFormed.{HasSeats}
use Rattle.one_server.specs.declared.part.Part.{Part}
use Rattle.one_server.specs.declared.part.Part.TheVariants.{Lobby as TheLobby, Desk as ADesk}
use Rattle.one_server.specs.declared.act.Timed.{Timed}
use Rattle.one_server.specs.Acts.{IsEvent, first_part, second_part}
use Rattle.one_server.specs.Desks.{listed_game}
use Rattle.one_server.specs.House.{house}
use Rattle.one_server.specs.Lent.{AreBothOf, IsFirstOf}
use Rattle.one_server.specs.Replies.{IsReply}
use Rattle.one_server.specs.Running.{Log}
use Rattle.one_server.specs.Whole.{IsWhole}

-- the lobby lists for each desk the game that it is in use for: none exactly where the desk is vacant, and else its
-- serial, its terms and its seats
abbrev pub ListsItsDesks : List Part → Type 0
ListsItsDesks parts =
    (lobby : LobbyState) (number : ℕ) (desk : DeskState) → slice_get parts 0 ≡ Some (TheLobby lobby)
    → slice_get parts number ≡ Some (ADesk desk)
    → slice_get lobby.games (number - 1) ≡ Some (listed_game desk)

-- each place of a member is a seat of its own, at a desk in use under that serial
abbrev pub SeatsItsMembers : List Part → Type 0
SeatsItsMembers parts = (lobby : LobbyState) → slice_get parts 0 ≡ Some (TheLobby lobby)
    → All (HasSeats lobby.games) lobby.members

-- the list of each board at a desk is a true score of its game: each half-move was allowed after those before it;
-- moments don't fall; a charge stands exactly where the game is timed and the half-move isn't the first of its colour,
-- begins where its player began to think (at the moment of the half-move before, or of seating, or where half-moves
-- were taken back, at that moment) and ends at its own; and each clock shows the time at the start, and the increment
-- for each charge of its colour, less the sum of these charges
abbrev pub KeepsTrueScores : List Part → Type 0
KeepsTrueScores parts =
    (number : ℕ) (desk : DeskState) (game : GameState) → slice_get parts number ≡ Some (ADesk desk)
    → desk.game ≡ Some game → All IsTrueScore game.boards

-- no man of the game at a desk is made or lost: in chess and Fischer random the men of a colour and kind on the board,
-- and those captured, are those of one set; in crazyhouse the men of a kind on the board and in both hands, and in
-- bughouse those of a colour and kind on both boards and in that colour's two hands, are those of two
abbrev pub KeepsMen : List Part → Type 0
KeepsMen parts =
    (number : ℕ) (desk : DeskState) → slice_get parts number ≡ Some (ADesk desk) → HasWholeSets desk

-- while a game at a desk runs none of its boards is at an end: nobody who is to move is mated or stalemated
abbrev pub GoesOnWhileItRuns : List Part → Type 0
GoesOnWhileItRuns parts =
    (number : ℕ) (desk : DeskState) (game : GameState) → slice_get parts number ≡ Some (ADesk desk)
    → desk.game ≡ Some game → game.ended ≡ None → GoOn game.boards

-- each game on the shelf can be played again as it is stored
abbrev pub StoresWhatReplays : List Part → Type 0
StoresWhatReplays parts = (lobby : LobbyState) → slice_get parts 0 ≡ Some (TheLobby lobby)
    → All (λ (row : Shelved). Replays row.game) lobby.shelf.games

-- the save orders that aren't told as saved stand in the order of their numbers, which rise up to that of the last one
-- that was made
abbrev pub NumbersItsOrders : List Part → Type 0
NumbersItsOrders parts = (lobby : LobbyState) → slice_get parts 0 ≡ Some (TheLobby lobby)
    → OrdersRise 0 lobby.shelf.made lobby.shelf.orders

-- each end in the feed of a desk's game names a winner exactly where somebody won
abbrev pub NamesItsWinners : List Part → Type 0
NamesItsWinners parts =
    (number : ℕ) (desk : DeskState) (game : GameState) → slice_get parts number ≡ Some (ADesk desk)
    → desk.game ≡ Some game → All NamesWinner game.feed

-- the fact holds in the state of every legal history that opens with a whole state
abbrev pub HoldsInEachState : (List Part → Type 0) → Type 0
HoldsInEachState Q = (opening : List Part) (log : Log) → IsWhole opening → Legal house opening log
    → Q (state house opening log)

-- in a whole state the part that an act names is of the kind that it needs first
abbrev pub LendsFirst : Type 0
LendsFirst = (parts : List Part) (timed : Timed) (one : Part) → IsWhole parts → IsEvent timed
    → slice_get parts (first_part timed.act) ≡ Some one → IsFirstOf one timed.act

-- and the part that its plan names is a desk at which the plan can be carried out
abbrev pub LendsSecond : Type 0
LendsSecond =
    (parts : List Part) (session : ℕ) (timed : Timed) (one two : Part) (number : ℕ) → IsWhole parts → IsEvent timed
    → slice_get parts (first_part timed.act) ≡ Some one
    → second_part one session timed.act ≡ Some number → slice_get parts number ≡ Some two
    → AreBothOf one two session timed.act

-- each reply of a history that opens with a whole state tells places at desks alone, and of each end the winner exactly
-- where somebody won
abbrev pub RepliesWell : Type 0
RepliesWell =
    (opening : List Part) (log : Log) → IsWhole opening → Legal house opening log → All (λ e. IsReply e.reply) log
