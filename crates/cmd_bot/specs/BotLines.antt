-- What `bot` writes for an input: what its lines make of the game, and the line at the input's end.
use Rattle.std.specs.Prelude.{ℕ, List, [], ◌++◌, Option, Some, None, codes, option_map}
use Rattle.house_bot.specs.AnswerText.{best_line}
use Rattle.cmd_lines.specs.LineCommand.{LineCommand}
use Rattle.cmd_bot.specs.Game.{BotGame, move_named, new_game, bot_position, variant_named, with_move}

-- the game that the lines have made: none before the first
abbrev pub BotState : Type 0
BotState = Option BotGame

-- nothing is written for a line
abbrev pub silent : BotGame → BotState × List ℕ
silent game = (Some game, [])

-- what a line that isn't empty makes of the game, or nothing where it is outside the grammar: the first names the
-- variant, each other a half-move
abbrev pub answer_line : ℕ → BotState → List ℕ → Option (BotState × List ℕ)
answer_line depth None line = option_map (λ variant. silent (new_game variant)) (variant_named depth line)
answer_line depth (Some game) line = option_map (λ m. silent (with_move game m)) (move_named game line)

-- `bot` as a function of where its game stands and a line
abbrev pub bot_lines : ℕ → LineCommand BotState
bot_lines depth = record { start = None; answer = answer_line depth; ending = codes "\n" }

-- the line at the input's end: the best move of the position, a blank and its value; none where no game was named
abbrev pub bot_answer : ℕ → BotState → List ℕ
bot_answer depth None = []
bot_answer depth (Some game) = best_line depth (bot_position game) ++ codes "\n"
