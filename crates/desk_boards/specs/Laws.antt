-- What the definitions mean for whoever keeps, adjourns and resumes games.
use Rattle.std.specs.Prelude.{◌≡◌, ℕ, ◌≤◌, ◌↔◌, IsSome, IfSome, All, List, map, length, Option, Some, None, slice_get}
use Rattle.std.specs.List.{AllByRecursion}
use Rattle.clock_ledger.specs.Charges.{last_moment}
use Rattle.chess_model.specs.declared.man.Colour.{Colour}
use Rattle.chess_model.specs.declared.moves.MoveWord.{MoveWord}
use Rattle.chess_model.specs.declared.variant.Terms.{Terms}
use Rattle.clock_ledger.specs.Span.{IsStamp}
use Rattle.game_board.specs.Board.{Board, position_of}
use Rattle.game_records.specs.declared.stored_game.Half.{Half}
use Rattle.game_records.specs.Bounds.{AreHalves, IsHalf}
use Rattle.game_records.specs.Replays.{CanBePlayed, GoesOn, without_charges}
use Rattle.fics_words.specs.Boards.{board_place}
use Rattle.desk_boards.specs.Boards.{boards_acked, boards_after, latest, new_boards, word_at}
use Rattle.fics_words.specs.declared.board_number.BoardNumber.{BoardNumber}
use Rattle.desk_boards.specs.Halves.{halves_of, list_on}
use Rattle.desk_boards.specs.Replaying.{replayed, resumed_at}
use Rattle.desk_boards.specs.Sound.{AreSoundBoards, GoOn}
use Rattle.desk_boards.specs.TakenBack.{boards_taken_back}

-- a record of sound boards has what they have: the half-moves of all, and of each board its list with the charges; and
-- it keeps the bounds of records
pub record HalvesAreTheBoards : Type 0 where
  pub all : (t : Terms) (boards : List Board) → AreSoundBoards t boards →
      All (λ b. without_charges (halves_of boards) ≡ b.all) boards
  pub each : (t : Terms) (boards : List Board) → AreSoundBoards t boards →
      All (λ b. list_on b.number (halves_of boards) ≡ b.list) boards
  pub bounds : (t : Terms) (boards : List Board) → AreSoundBoards t boards → AreHalves t.variant (halves_of boards)

-- a board on which half-moves were put and nothing has happened since: the player to move is thinking from that moment
-- and hasn't acknowledged it, no half-move was taken back, and each came with its charge
pub record IsFreshlyPut (moment : ℕ) (b : Board) : Type 0 where
  pub begin : b.begin ≡ moment
  pub kept : b.kept ≡ None
  pub played : b.played ≡ length b.list
  pub resumed : b.resumed ≡ length b.list

-- boards that half-moves were played again on: they are sound, have these and no others, and are new but for them
pub record AreOf (t : Terms) (halves : List Half) (moment : ℕ) (boards : List Board) : Type 0 where
  pub sound : AreSoundBoards t boards
  pub made : halves_of boards ≡ halves
  pub fresh : All (IsFreshlyPut moment) boards

pub record AreReplayed : Type 0 where
  -- half-moves that a record can have are played again exactly where they can be played
  pub exactly : (t : Terms) (halves : List Half) (moment : ℕ) → AllByRecursion (IsHalf t.variant) halves →
      IsSome (replayed t halves moment) ↔ CanBePlayed t halves
  pub boards : (t : Terms) (halves : List Half) (moment : ℕ) → AllByRecursion (IsHalf t.variant) halves →
      IfSome (replayed t halves moment) (AreOf t halves moment)
  -- so the boards of a game that is resumed are those with which it was left, but for the time since which their
  -- players think
  pub restores : (t : Terms) (boards : List Board) (moment : ℕ) → AreSoundBoards t boards →
      replayed t (halves_of boards) moment ≡ Some (map (resumed_at moment) boards)

-- boards are sound from the start on: whatever words are played while no board is at an end, whatever clients
-- acknowledge, and whatever half-moves are taken back
pub record BoardsStaySound : Type 0 where
  pub start : (t : Terms) (moment : ℕ) → AreSoundBoards t (new_boards t moment)
  pub play : (t : Terms) (boards : List Board) (board : BoardNumber) (moment : ℕ) (c : Colour) (word : MoveWord)
      (stamp : Option ℕ) → AreSoundBoards t boards → GoOn boards → latest boards ≤ moment → moment ≤ last_moment →
      IfSome stamp IsStamp →
      AreSoundBoards t (boards_after boards board moment stamp (word_at (slice_get boards (board_place board)) c word))
  pub acked : (t : Terms) (boards : List Board) (board : BoardNumber) (c : Colour) (stamp : ℕ) →
      AreSoundBoards t boards → IsStamp stamp → AreSoundBoards t (boards_acked boards board c stamp)
  pub take_back : (t : Terms) (boards : List Board) (n moment : ℕ) → AreSoundBoards t boards → latest boards ≤ moment →
      AreSoundBoards t (boards_taken_back boards n moment)

-- new boards go on, and so do those from which half-moves were taken back; a word ends at most the board at which it
-- was said, since what comes into a hand mates nobody; and what clients acknowledge ends nothing
pub record EndsComeByMoves : Type 0 where
  pub start : (t : Terms) (moment : ℕ) → GoOn (new_boards t moment)
  pub play : (t : Terms) (boards : List Board) (board : BoardNumber) (moment : ℕ) (c : Colour) (word : MoveWord)
      (stamp : Option ℕ) → AreSoundBoards t boards → GoOn boards →
      IfSome (slice_get (boards_after boards board moment stamp (word_at (slice_get boards (board_place board)) c word))
      (board_place board)) (λ b. GoesOn (position_of b)) →
      GoOn (boards_after boards board moment stamp (word_at (slice_get boards (board_place board)) c word))
  pub acked : (boards : List Board) (board : BoardNumber) (c : Colour) (stamp : ℕ) → GoOn boards →
      GoOn (boards_acked boards board c stamp)
  pub take_back : (t : Terms) (boards : List Board) (n moment : ℕ) → AreSoundBoards t boards → latest boards ≤ moment →
      GoOn boards → GoOn (boards_taken_back boards n moment)
