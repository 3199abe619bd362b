-- What it means that a game is kept until its players resume it.
use Rattle.std.specs.Prelude.{◌≡◌, ℕ, All, length, Option, Some, slice_get}
use Rattle.chess_model.specs.declared.man.Colour.{Colour}
use Rattle.fics_words.specs.declared.seats.Seats.{Seats}
use Rattle.game_board.specs.Board.{Board, position_of}
use Rattle.game_board.specs.Charges.{remaining_of}
use Rattle.game_records.specs.declared.stored_game.StoredGame.{StoredGame}
use Rattle.game_records.specs.Replays.{Replays}
use Rattle.desk_boards.specs.Halves.{halves_of}
use Rattle.linked_desk.specs.Desk.{DeskState, GameState}
use Rattle.linked_desk.specs.Restore.{restored}
use Rattle.linked_desk.specs.Seating.{uncoloured}
use Rattle.linked_desk.specs.Shelve.{names_seated, stored_of}
use Rattle.linked_desk.specs.Sound.{IsSoundGame}

-- each game, as it is kept, can be played again
abbrev pub ShelvedGamesReplay : Type 0
ShelvedGamesReplay = (g : GameState) → IsSoundGame g → Replays (stored_of g)

-- a stored game that is on again: with its terms, its players and its half-moves with their charges. The clocks run
-- from the moment of resuming
pub record IsOnAgain (g : StoredGame) (moment : ℕ) (now : GameState) : Type 0 where
  pub terms : now.terms ≡ g.terms
  pub names : names_seated now.seats ≡ g.names
  pub halves : halves_of now.boards ≡ g.halves
  pub begin : All (λ (b : Board). b.begin ≡ moment) now.boards

-- a board as it was: it has the half-moves and charges, the position with the men in hand, and the clocks of that one
pub record IsAsBefore (before now : Board) : Type 0 where
  pub number : now.number ≡ before.number
  pub list : now.list ≡ before.list
  pub position : position_of now ≡ position_of before
  pub clocks : (c : Colour) → remaining_of now c ≡ remaining_of before c

-- a game that goes on from where another was left
pub record GoesOnFrom (before now : GameState) : Type 0 where
  pub terms : now.terms ≡ uncoloured before.terms
  pub names : names_seated now.seats ≡ names_seated before.seats
  pub many : length now.boards ≡ length before.boards
  pub boards : (place : ℕ) (b c : Board) → slice_get before.boards place ≡ Some b →
      slice_get now.boards place ≡ Some c → IsAsBefore b c

-- a desk gets a game of which this holds
abbrev pub Gets : Option DeskState → (GameState → Type 0) → Type 0
Gets desk P = (d : DeskState) × (desk ≡ Some d) × ((g : GameState) × (d.game ≡ Some g) × P g)

-- where players of the same names sit down, a game that replays is restored as it is stored, and one that was kept
-- goes on from where it was left
pub record ResumingRestores : Type 0 where
  pub stored : (d : DeskState) (serial : ℕ) (g : StoredGame) (seats : Seats) (moment : ℕ) → Replays g →
      names_seated seats ≡ g.names → Gets (restored d serial g seats moment) (IsOnAgain g moment)
  pub kept : (d : DeskState) (serial : ℕ) (g : GameState) (seats : Seats) (moment : ℕ) → IsSoundGame g →
      names_seated seats ≡ names_seated g.seats → Gets (restored d serial (stored_of g) seats moment) (GoesOnFrom g)
