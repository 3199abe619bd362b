-- The game that `board` plays: one untimed game of chess between `White` and `Black`, game 1, seen by an observer.
use Rattle.std.specs.Prelude.{ℕ, pos, Bool, List, [], ◌∷◌, ◌++◌, Option, None, Result, Ok, Err, codes, option_map, false, if◌then◌else◌}
use Rattle.chess_model.specs.declared.states.State.{State}
use Rattle.chess_model.specs.declared.variant.Terms.{Terms}
use Rattle.chess_model.specs.declared.variant.Variant.TheVariants.{Chess}
use Rattle.chess_model.specs.declared.moves.Move.{Move}
use Rattle.chess_model.specs.declared.moves.MoveWord.{MoveWord}
use Rattle.fics_words.specs.declared.refusal.Refusal.{Refusal}
use Rattle.fics_words.specs.declared.refusal.Refusal.TheVariants.{GameOver}
use Rattle.game_board.specs.Board.{Board, new_board, to_move, position_of}
use Rattle.game_board.specs.BoardFace.{board_face, last_taken}
use Rattle.game_board.specs.Play.{move_answer, with_half_move}
use Rattle.style12_writer.specs.declared.view.BoardView.{BoardView}
use Rattle.style12_writer.specs.declared.view.Viewer.{Viewer}
use Rattle.style12_writer.specs.Line12.{line12_text}
use Rattle.variant_rules.specs.States.{state_in}
use Rattle.chess_model.specs.Result.{is_end}
use Rattle.cmd_board.specs.Endings.{end_lines, line_of_refusal}
use Rattle.move_reader.specs.Reading.{reading}

-- the game: the board of game_board, whose half-moves are all at moment 0
abbrev pub BoardGame : Type 0
BoardGame = Board

-- chess without clocks
abbrev pub untimed : Terms
untimed = record { minutes = 0; increment = 0; variant = Chess; colour = None }

-- a game before its first half-move
abbrev pub new_game : BoardGame
new_game = new_board 1 untimed 0

-- what the line of the board shows
abbrev pub view_of : BoardGame → BoardView
view_of b = record {
  face = board_face b;
  game = 1;
  white = codes "White";
  black = codes "Black";
  minutes = 0;
  increment = 0;
  remaining = pos 0 ∷ pos 0 ∷ [];
  taken = last_taken b.list;
}

-- who looks on, with White at the bottom
abbrev pub observer : Viewer
observer = record { relation = pos 0; flip = false }

-- the style 12 line of the board
abbrev pub line_text : BoardGame → List ℕ
line_text b = line12_text (view_of b) observer ++ codes "\n\r"

-- what the position is for the player to move
abbrev pub board_state : BoardGame → State
board_state b = state_in (position_of b)

-- whether the game has ended: its last half-move gave mate or stalemate
abbrev pub game_has_ended : BoardGame → Bool
game_has_ended b = is_end (board_state b)

-- the answer to a move word: that the game is over, else the one by the rules of chess
abbrev pub answer_to : BoardGame → MoveWord → Result Move Refusal
answer_to b word = if game_has_ended b then Err GameOver else move_answer b (to_move b) word

-- what is written after a half-move: the board's line, and the line of the end where the game has ended
abbrev pub shown_text : BoardGame → List ℕ
shown_text b = line_text b ++ end_lines (view_of b) (to_move b) (board_state b)

-- the next state and what is written: the half-move and what is shown after it, or the refusal
abbrev pub move_made : BoardGame → Result Move Refusal → BoardGame × List ℕ
move_made b (Ok m) = (with_half_move b m 0 None, shown_text (with_half_move b m 0 None))
move_made b (Err r) = (b, line_of_refusal r)

-- what a line that isn't empty makes of a game, and what is written for it; nothing where it is outside the grammar
unfoldable pub answer_line : BoardGame → List ℕ → Option (BoardGame × List ℕ)
answer_line b line = option_map (λ word. move_made b (answer_to b word)) (reading line)
