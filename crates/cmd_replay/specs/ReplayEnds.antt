-- How the reading of a script ends: what was read, which evening it was, and what was written by then.
use Rattle.std.specs.Prelude.{◌≡◌, ℕ, ◌≤◌, Bool, true, false, List, ◌++◌, length, filter, map, Option, codes}
use Rattle.std.specs.Io.KnownBytes.{Appends}
use Rattle.histories.specs.History.{Legal}
use Rattle.edge_traits.specs.Source.{most_reads}
use Rattle.one_server.specs.House.{house}
use Rattle.one_server.specs.Running.{Log}
use Rattle.cmd_lines.specs.Ends.{HasRead}
use Rattle.cmd_replay.specs.Evening.{Row, Reached, IsEvening, LeaveInOrder, line_of, history_of, transcript_of, arrivals_of, final_moment, sessions_left, opening_parts, remembered}
use Rattle.cmd_lines.specs.HandlerEnds.{ArePartAnswered, AreStopped}
use Rattle.cmd_lines.specs.Lines.{is_written, lines_come}
use Rattle.cmd_lines.specs.declared.end.End.{End}
use Rattle.cmd_lines.specs.declared.end.End.TheVariants.{Done, ReadFault, WriteFault, Memory, BadLine, Spent}

-- the rows are an evening of these lines, and all that they made is one legal history of a server that opened empty
pub record AreEveningOf (lines : List (List ℕ)) (rows : List Row) : Type 0 where
  pub follow : IsEvening rows
  pub spelled : filter is_written lines ≡ map line_of rows
  pub legal : Legal house opening_parts (history_of rows)

-- these lines are those of an evening
abbrev pub AreEvening : List (List ℕ) → Type 0
AreEvening lines = (rows : List Row) × IsEvening rows × (filter is_written lines ≡ map line_of rows)

-- the lines that have come are those of an evening, and its transcript was written
pub record AreReplayed (left left' written written' : Option (List ℕ)) (ended : Bool) : Type 0 where
  pub taken : List ℕ
  pub came : HasRead left left' taken ended
  pub rows : List Row
  pub evening : AreEveningOf (lines_come ended taken) rows
  pub text : Appends written written' (transcript_of rows)

-- the script has come to its end: those that were left have left, in the order of their numbers, and all of it is one
-- legal history
pub record IsReplayed (left left' written written' : Option (List ℕ)) : Type 0 where
  pub replayed : AreReplayed left left' written written' true
  pub leaving : Log
  pub leave : LeaveInOrder (remembered replayed.rows) (final_moment (arrivals_of replayed.rows))
      (sessions_left replayed.rows) leaving
  pub legal : Legal house opening_parts (history_of replayed.rows ++ leaving)

-- at least 2^40 bytes came, and their whole lines were answered
pub record AreReplayedLong (left left' written written' : Option (List ℕ)) : Type 0 where
  pub replayed : AreReplayed left left' written written' false
  pub many : most_reads ≤ length replayed.taken

-- how the reading of a script ends. A line is outside the grammar where no evening has it behind the lines before it
abbrev pub ReplayEnds : Option (List ℕ) → Option (List ℕ) → Option (List ℕ) → Option (List ℕ) → End → Type 0
ReplayEnds left left' written written' Done = IsReplayed left left' written written'
ReplayEnds left left' written written' ReadFault = AreReplayed left left' written written' false
ReplayEnds left left' written written' WriteFault = ArePartAnswered Reached (codes "\n") left left' written written'
ReplayEnds left left' written written' Memory = ArePartAnswered Reached (codes "\n") left left' written written'
ReplayEnds left left' written written' BadLine = AreStopped Reached (codes "\n") left left' written written'
ReplayEnds left left' written written' Spent = AreReplayedLong left left' written written'
