-- How the command `check` ends: what was written by then. It reads nothing. This program's own.
use Rattle.std.specs.Prelude.{◌≡◌, ◌⊎◌, ℕ, List, []}
use Rattle.std.specs.declared.option.Option.{Option}
use Rattle.std.specs.Io.KnownBytes.{Appends}
use Rattle.edge_traits.specs.Pairs.{Records}
use Rattle.edge_traits.specs.Sink.{AppendsFront}
use Rattle.cmd_lines.specs.declared.end.End.{End}
use Rattle.cmd_lines.specs.declared.end.End.TheVariants.{Done, ReadFault, WriteFault, Memory, BadLine, Spent}
use Rattle.lobby_load.specs.Telling.{IsBadTold, IsFirstBad, bad_record_line}
use Rattle.cmd_store.specs.declared.outcome.Outcome.{Outcome}
use Rattle.cmd_store.specs.declared.outcome.Outcome.TheVariants.{Read, BadRecord, KeeperFault, NoGame}
use Rattle.cmd_check.specs.Counts.{AreCounts, check_line}

-- the writing of a line ended: it was written, or a beginning of it
abbrev pub WritesLine : List ℕ → Option (List ℕ) → Option (List ℕ) → End → Type 0
WritesLine line written written' Done = Appends written written' line
WritesLine line written written' ReadFault = ⊥
WritesLine line written written' WriteFault = AppendsFront written written' line
WritesLine line written written' Memory = AppendsFront written written' line
WritesLine line written written' BadLine = ⊥
WritesLine line written written' Spent = ⊥

-- the store is good, and the line of its counts was written
pub record IsChecked (table : Option Records) (written written' : Option (List ℕ)) : Type 0 where
  pub accounts : ℕ
  pub games : ℕ
  pub counts : AreCounts table accounts games
  pub wrote : Appends written written' (check_line accounts games)

-- what is written of the store: the line of its counts where it is good, and else that of its least bad key
abbrev pub IsTextOf : Option Records → List ℕ → Type 0
IsTextOf table text =
    ((accounts : ℕ) × (games : ℕ) × AreCounts table accounts games × (text ≡ check_line accounts games))
    ⊎ ((key : List ℕ) × IsFirstBad table key × (text ≡ bad_record_line key))

-- nothing was written, or a beginning of what is written of the store
abbrev pub IsPartTold : Option Records → Option (List ℕ) → Option (List ℕ) → Type 0
IsPartTold table written written' =
    Appends written written' [] ⊎ ((text : List ℕ) × IsTextOf table text × AppendsFront written written' text)

-- how the command ends
abbrev pub CheckEnds : Option Records → Option (List ℕ) → Option (List ℕ) → Outcome → Type 0
CheckEnds table written written' (Read Done) = IsChecked table written written'
CheckEnds table written written' (Read ReadFault) = ⊥
CheckEnds table written written' (Read WriteFault) = IsPartTold table written written'
CheckEnds table written written' (Read Memory) = IsPartTold table written written'
CheckEnds table written written' (Read BadLine) = ⊥
CheckEnds table written written' (Read Spent) = ⊥
CheckEnds table written written' BadRecord = IsBadTold table written written'
CheckEnds table written written' KeeperFault = Appends written written' []
CheckEnds table written written' NoGame = ⊥
