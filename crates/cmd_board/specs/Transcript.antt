-- What `board` writes for lines: the texts of their answers, in the position of the half-moves accepted before each.
use Rattle.std.specs.Prelude.{ℕ, List, Option, codes}
use Rattle.cmd_board.specs.Game.{BoardGame, new_game, answer_line}
use Rattle.cmd_lines.specs.LineCommand.{LineCommand}
use Rattle.cmd_lines.specs.LineCommand as lines

-- `board` as a function of where its game stands and a line
abbrev pub board_lines : LineCommand BoardGame
board_lines = record { start = new_game; answer = answer_line; ending = codes "\n\r" }

-- the number of the first line of an input that is outside the grammar
abbrev pub bad_line_in : List (List ℕ) → Option ℕ
bad_line_in = lines.bad_in board_lines
