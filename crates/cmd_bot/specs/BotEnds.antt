-- How the reading of the lines of `bot` ends: what was read and what was written by then.
use Rattle.std.specs.Prelude.{ℕ, List, Option}
use Rattle.cmd_lines.specs.ClosingCommandEnds.{ClosingCommandEnds}
use Rattle.cmd_lines.specs.declared.end.End.{End}
use Rattle.cmd_bot.specs.BotLines.{bot_answer, bot_lines}

abbrev pub BotEnds : ℕ → Option (List ℕ) → Option (List ℕ) → Option (List ℕ) → Option (List ℕ) → End → Type 0
BotEnds depth left left' written written' end =
    ClosingCommandEnds (bot_lines depth) (bot_answer depth) left left' written written' end
