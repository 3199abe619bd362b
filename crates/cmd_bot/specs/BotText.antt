-- What `bot` writes, in a player's words.
use Rattle.std.specs.Prelude.{◌≡◌, ℕ, Bool, true, List, [], Option, Some, codes, filter}
use Rattle.std.specs.Io.KnownBytes.{Appends}
use Rattle.cmd_lines.specs.Ends.{HasRead}
use Rattle.cmd_lines.specs.Handling.{bad_line}
use Rattle.cmd_lines.specs.LineCommand.{bad_in}
use Rattle.cmd_lines.specs.Lines.{is_written, lines_come, lines_of}
use Rattle.cmd_bot.specs.BotLines.{BotState, bot_answer, bot_lines}
use Rattle.cmd_bot.specs.Inputs.{Give}

-- the input has ended, its lines give a game, and the bot's answer in the position of that game was written, and
-- nothing else
pub record AnswersGame (depth : ℕ) (left left' written written' : Option (List ℕ)) : Type 0 where
  pub taken : List ℕ
  pub game : BotState
  pub came : HasRead left left' taken true
  pub given : Give depth (filter is_written (lines_of taken)) game
  pub text : Appends written written' (bot_answer depth game)

-- a line that has come is outside the grammar, and the line that tells of the first one was written, and nothing else
pub record TellsBadLine (depth : ℕ) (left left' written written' : Option (List ℕ)) : Type 0 where
  pub taken : List ℕ
  pub ended : Bool
  pub number : ℕ
  pub came : HasRead left left' taken ended
  pub bad : bad_in (bot_lines depth) (lines_come ended taken) ≡ Some number
  pub text : Appends written written' (bad_line (codes "\n") number)

-- nothing was written
abbrev pub WritesNothing : Option (List ℕ) → Option (List ℕ) → Type 0
WritesNothing written written' = Appends written written' []
