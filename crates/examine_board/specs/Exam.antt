-- A stored game that is looked at step by step. This server's own.
use Rattle.std.specs.Prelude.{ℕ, List, length, map, take, None}
use Rattle.chess_model.specs.declared.variant.Terms.{Terms}
use Rattle.game_board.specs.Board.{Board}
use Rattle.game_records.specs.declared.stored_game.Half.{Half}
use Rattle.game_records.specs.declared.stored_game.StoredGame.{StoredGame}
use Rattle.game_records.specs.Replays.{without_charges}
use Rattle.fics_words.specs.Boards.{board_number}
use Rattle.desk_boards.specs.Boards.{board_numbers}
use Rattle.fics_words.specs.declared.board_number.BoardNumber.{BoardNumber}
use Rattle.desk_boards.specs.Halves.{list_on}

pub record ExamState : Type 0 where
  -- on which terms the game is played, and by whom: White and Black, or for a pair those of the first board and those
  -- of the second
  pub terms : Terms
  pub names : List (List ℕ)
  -- the half-moves of the stored game
  pub stored : List Half
  -- the half-moves that are looked at, and how many of them, the first ones, are on the boards
  pub list : List Half
  pub point : ℕ

-- a stored game before its first half-move
abbrev pub exam_opened : StoredGame → ExamState
exam_opened g = record { terms = g.terms; names = g.names; stored = g.halves; list = g.halves; point = 0 }

-- the half-moves on the boards
abbrev pub present : ExamState → List Half
present e = take e.point e.list

-- the board of that number after these half-moves, each with the charge that it has
abbrev pub board_after : Terms → List Half → ℕ → Board
board_after t halves number = record {
  number = number;
  terms = t;
  list = list_on number halves;
  begin = 0;
  kept = None;
  played = length (list_on number halves);
  resumed = length (list_on number halves);
  all = without_charges halves;
}

-- all boards of the game after these half-moves
abbrev pub boards_of_halves : Terms → List Half → List Board
boards_of_halves t halves = map (board_after t halves) (board_numbers t.variant)

-- a board where the exam is
abbrev pub board_on : ExamState → BoardNumber → Board
board_on e board = board_after e.terms (present e) (board_number board)
