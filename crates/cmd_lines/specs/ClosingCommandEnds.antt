-- How the reading of the lines of a command ends that answers each by a function and writes a text at the input's end.
use Rattle.std.specs.Prelude.{◌≡◌, ℕ, Bool, true, false, List, ◌++◌, Option, None}
use Rattle.std.specs.Io.KnownBytes.{Appends}
use Rattle.edge_traits.specs.Sink.{AppendsFront}
use Rattle.cmd_lines.specs.ClosingCommand.{text_come}
use Rattle.cmd_lines.specs.Ends.{HasRead}
use Rattle.cmd_lines.specs.LineCommand.{LineCommand, bad_in, last_state, text_of_lines}
use Rattle.cmd_lines.specs.LineCommandEnds.{AnswersWhole, Spends, StopsAtBadLine}
use Rattle.cmd_lines.specs.Lines.{lines_come, lines_of}
use Rattle.cmd_lines.specs.declared.end.End.{End}
use Rattle.cmd_lines.specs.declared.end.End.TheVariants.{Done, ReadFault, WriteFault, Memory, BadLine, Spent}

-- the input has ended, all its lines are good, and their whole text was written, and then the text at the end
pub record AnswersAndCloses {S : Type 0} (command : LineCommand S) (closing : S → List ℕ)
    (left left' written written' : Option (List ℕ)) : Type 0 where
  pub taken : List ℕ
  pub came : HasRead left left' taken true
  pub good : bad_in command (lines_of taken) ≡ None
  pub text : Appends written written'
      (text_of_lines command (lines_of taken) ++ closing (last_state command (lines_of taken)))

-- a prefix was written of the text of the lines that have come, with the text at the end only where the input has ended
pub record AnswersOrClosesPart {S : Type 0} (command : LineCommand S) (closing : S → List ℕ)
    (left left' written written' : Option (List ℕ)) : Type 0 where
  pub taken : List ℕ
  pub ended : Bool
  pub came : HasRead left left' taken ended
  pub text : AppendsFront written written' (text_come command closing ended (lines_come ended taken))

-- how the reading of the lines of the command ends. At a bad line, a fault of reading or a spent budget nothing of the
-- text at the end is written
abbrev pub ClosingCommandEnds : {S : Type 0} → LineCommand S → (S → List ℕ) → Option (List ℕ) → Option (List ℕ)
    → Option (List ℕ) → Option (List ℕ) → End → Type 0
ClosingCommandEnds command closing left left' written written' Done =
    AnswersAndCloses command closing left left' written written'
ClosingCommandEnds command closing left left' written written' ReadFault =
    AnswersWhole command left left' written written' false
ClosingCommandEnds command closing left left' written written' WriteFault =
    AnswersOrClosesPart command closing left left' written written'
ClosingCommandEnds command closing left left' written written' Memory =
    AnswersOrClosesPart command closing left left' written written'
ClosingCommandEnds command closing left left' written written' BadLine =
    StopsAtBadLine command left left' written written'
ClosingCommandEnds command closing left left' written written' Spent = Spends command left left' written written'
