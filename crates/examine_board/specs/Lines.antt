-- The lines that show where an exam is: the board line of FICS style 12 as an examiner sees it, and holdings lines.
-- Which board is shown, and that boards have the numbers 1 and 2 as games, is this server's own.
use Rattle.std.specs.Prelude.{ℕ, ◌-◌, ◌*◌, pos, false, if◌then◌else◌, List, [], ◌∷◌, map, None}
use Rattle.std.specs.List.{slice_index_or}
use Rattle.std.specs.Option.{option_map_or}
use Rattle.chess_model.specs.declared.man.Colour.TheVariants.{White, Black}
use Rattle.chess_model.specs.Position.{hand_of_side}
use Rattle.chess_model.specs.Tests.{has_drops}
use Rattle.game_board.specs.Board.{Board, position_of}
use Rattle.game_board.specs.BoardFace.{board_face, last_taken}
use Rattle.game_board.specs.Charges.{remaining_of}
use Rattle.game_records.specs.declared.stored_game.Half.{Half}
use Rattle.fics_words.specs.Boards.{board_number}
use Rattle.fics_words.specs.declared.board_number.BoardNumber.{BoardNumber}
use Rattle.fics_words.specs.declared.board_number.BoardNumber.TheVariants.{First}
use Rattle.desk_boards.specs.Halves.{last_board}
use Rattle.style12_writer.specs.declared.view.BoardView.{BoardView}
use Rattle.style12_writer.specs.declared.view.Viewer.{Viewer}
use Rattle.style12_writer.specs.HoldingsLine.{holdings_text}
use Rattle.style12_writer.specs.Line12.{line12_text}
use Rattle.examine_board.specs.Exam.{ExamState, board_on, boards_of_halves, present}

-- the board that is shown behind some half-moves: that of the last one, or the first before any
abbrev pub shown_behind : List Half → BoardNumber
shown_behind halves = option_map_or (λ board. board) (last_board halves) First

-- and where the exam is
abbrev pub shown_board : ExamState → BoardNumber
shown_board e = shown_behind (present e)

-- the name of the player in that place
abbrev pub name_at : List (List ℕ) → ℕ → List ℕ
name_at names seat = slice_index_or names seat []

-- all that the line of a board shows: the clocks are by the charges of the half-moves on it, and the
-- time taken is the last charge
unfoldable pub view_of : ExamState → BoardNumber → BoardView
view_of e board = record {
  face = board_face (board_on e board);
  game = board_number board;
  white = name_at e.names (2 * board_number board - 2);
  black = name_at e.names (2 * board_number board - 1);
  minutes = e.terms.minutes;
  increment = e.terms.increment;
  remaining = remaining_of (board_on e board) White ∷ remaining_of (board_on e board) Black ∷ [];
  taken = last_taken (board_on e board).list;
}

-- who examines a game, with White at the bottom
abbrev pub examiner : Viewer
examiner = record { relation = pos 2; flip = false }

-- the holdings line of a board
abbrev pub hands_line : Board → List ℕ
hands_line b = holdings_text b.number (hand_of_side (position_of b) White) (hand_of_side (position_of b) Black) None

-- and of each board, where the variant has men in hand
abbrev pub hands_lines : ExamState → List (List ℕ)
hands_lines e = if has_drops e.terms.variant then map hands_line (boards_of_halves e.terms (present e)) else []

-- all lines
abbrev pub exam_lines : ExamState → List (List ℕ)
exam_lines e = line12_text (view_of e (shown_board e)) examiner ∷ hands_lines e
