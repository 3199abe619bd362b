-- How the reading of the lines of `board` ends: what was read and what was written by then.
use Rattle.std.specs.Prelude.{ℕ, List, Option}
use Rattle.cmd_board.specs.Transcript.{board_lines}
use Rattle.cmd_lines.specs.LineCommandEnds.{LineCommandEnds}
use Rattle.cmd_lines.specs.declared.end.End.{End}

abbrev pub BoardEnds : Option (List ℕ) → Option (List ℕ) → Option (List ℕ) → Option (List ℕ) → End → Type 0
BoardEnds left left' written written' end = LineCommandEnds board_lines left left' written written' end
