-- How the reading of the lines of a command ends that answers each by a function: what was read and what was written by
-- then.
use Rattle.std.specs.Prelude.{◌≡◌, ℕ, ◌≤◌, Bool, true, false, List, length, Option, Some, None}
use Rattle.std.specs.Io.KnownBytes.{Appends}
use Rattle.edge_traits.specs.Sink.{AppendsFront}
use Rattle.edge_traits.specs.Source.{most_reads}
use Rattle.cmd_lines.specs.Ends.{HasRead}
use Rattle.cmd_lines.specs.LineCommand.{LineCommand, text_of_lines, bad_in}
use Rattle.cmd_lines.specs.Lines.{lines_come}
use Rattle.cmd_lines.specs.declared.end.End.{End}
use Rattle.cmd_lines.specs.declared.end.End.TheVariants.{Done, ReadFault, WriteFault, Memory, BadLine, Spent}

-- all lines that have come are good, and their whole text was written
pub record AnswersWhole {S : Type 0} (command : LineCommand S)
    (left left' written written' : Option (List ℕ)) (ended : Bool) : Type 0 where
  pub taken : List ℕ
  pub came : HasRead left left' taken ended
  pub good : bad_in command (lines_come ended taken) ≡ None
  pub text : Appends written written' (text_of_lines command (lines_come ended taken))

-- the lines that have come have one outside the grammar, and the text up to it was written, with its number
pub record StopsAtBadLine {S : Type 0} (command : LineCommand S)
    (left left' written written' : Option (List ℕ)) : Type 0 where
  pub taken : List ℕ
  pub ended : Bool
  pub number : ℕ
  pub came : HasRead left left' taken ended
  pub bad : bad_in command (lines_come ended taken) ≡ Some number
  pub text : Appends written written' (text_of_lines command (lines_come ended taken))

-- a prefix of the text of the lines that have come was written
pub record AnswersPart {S : Type 0} (command : LineCommand S)
    (left left' written written' : Option (List ℕ)) : Type 0 where
  pub taken : List ℕ
  pub ended : Bool
  pub came : HasRead left left' taken ended
  pub text : AppendsFront written written' (text_of_lines command (lines_come ended taken))

-- at least 2^40 bytes came, and the text of their whole lines was written
pub record Spends {S : Type 0} (command : LineCommand S) (left left' written written' : Option (List ℕ)) : Type 0 where
  pub answers : AnswersWhole command left left' written written' false
  pub many : most_reads ≤ length answers.taken

-- how the reading of the lines of the command ends
abbrev pub LineCommandEnds : {S : Type 0} → LineCommand S → Option (List ℕ) → Option (List ℕ) → Option (List ℕ)
    → Option (List ℕ) → End → Type 0
LineCommandEnds command left left' written written' Done = AnswersWhole command left left' written written' true
LineCommandEnds command left left' written written' ReadFault = AnswersWhole command left left' written written' false
LineCommandEnds command left left' written written' WriteFault = AnswersPart command left left' written written'
LineCommandEnds command left left' written written' Memory = AnswersPart command left left' written written'
LineCommandEnds command left left' written written' BadLine = StopsAtBadLine command left left' written written'
LineCommandEnds command left left' written written' Spent = Spends command left left' written written'
