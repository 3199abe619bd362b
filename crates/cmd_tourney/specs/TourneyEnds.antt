-- How the reading of the lines of `tourney` ends: what was read and what was written by then.
use Rattle.std.specs.Prelude.{ℕ, List, Option}
use Rattle.cmd_lines.specs.LineCommandEnds.{LineCommandEnds}
use Rattle.cmd_lines.specs.declared.end.End.{End}
use Rattle.cmd_tourney.specs.Texts.{tourney_lines}

abbrev pub TourneyEnds : Option (List ℕ) → Option (List ℕ) → Option (List ℕ) → Option (List ℕ) → End → Type 0
TourneyEnds left left' written written' end = LineCommandEnds tourney_lines left left' written written' end
