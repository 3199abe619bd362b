-- A command that answers each line of its input by a function and writes a text at the input's end: what it writes.
use Rattle.std.specs.Prelude.{◌≡◌, ℕ, Bool, true, false, List, [], ◌++◌}
use Rattle.std.specs.Option.{option_map_or}
use Rattle.cmd_lines.specs.Feeding.{Feeding}
use Rattle.cmd_lines.specs.Handling.{HasBadLine}
use Rattle.cmd_lines.specs.LineCommand.{LineCommand, IsPlayed, bad_in, last_state, text_of_lines}
use Rattle.cmd_lines.specs.Lines.{lines_come, lines_of}
use Rattle.cmd_lines.specs.MachineFeeding.{HasAnswered}
use Rattle.cmd_lines.specs.HandlerStanding.{HandlerStanding}

module _ {S : Type 0} (command : LineCommand S) (closing : S → List ℕ) where
  -- the text at the end of an input, by where its lines bring the command; none where a line is outside the grammar
  abbrev pub closing_text : List (List ℕ) → List ℕ
  closing_text lines = option_map_or (λ bad. []) (bad_in command lines) (closing (last_state command lines))

  -- what is written for lines that have come: the texts of their answers and, where they are all, the text at the end
  abbrev pub text_come : Bool → List (List ℕ) → List ℕ
  text_come false lines = text_of_lines command lines
  text_come true lines = text_of_lines command lines ++ closing_text lines

  -- all lines are good, and this text is due for them, with the text at the end
  abbrev pub IsClosedWith : List ℕ → HandlerStanding S → List ℕ → Type 0
  IsClosedWith taken standing due =
      (stands : S) × (text : List ℕ) × IsPlayed command (lines_of taken) stands text × (due ≡ text ++ closing stands)

  -- what the machine makes of the bytes of the input of such a command
  abbrev pub closing_feeding : Feeding (HandlerStanding S)
  closing_feeding = record {
    fed = HasAnswered (IsPlayed command);
    refused = λ ended taken due. HasBadLine (IsPlayed command) command.ending (lines_come ended taken) due;
    closed = IsClosedWith;
  }
