-- How the reading of the input of a feeder ends: what was read, where the feeder stands and what was written by then.
use Rattle.std.specs.Prelude.{◌≡◌, ℕ, ◌≤◌, Bool, true, false, List, [], ◌++◌, length, Option}
use Rattle.std.specs.Io.KnownBytes.{Appends}
use Rattle.edge_traits.specs.Sink.{AppendsFront}
use Rattle.edge_traits.specs.Source.{most_reads}
use Rattle.cmd_lines.specs.Ends.{HasRead}
use Rattle.cmd_lines.specs.Feeding.{Feeding, IsDueFor}
use Rattle.cmd_lines.specs.declared.end.End.{End}
use Rattle.cmd_lines.specs.declared.end.End.TheVariants.{Done, ReadFault, WriteFault, Memory, BadLine, Spent}

-- the beginning of the input has come, is good, and what is due for it was written
pub record IsBegun {S : Type 0} (feeding : Feeding S) (left left' written written' : Option (List ℕ)) : Type 0 where
  pub taken : List ℕ
  pub stands : S
  pub due : List ℕ
  pub came : HasRead left left' taken false
  pub good : feeding.fed false taken stands due
  pub text : Appends written written' due

-- the whole input has come, is good, and what is due for it was written, with what is written in closing
pub record IsClosed {S : Type 0} (feeding : Feeding S) (left left' written written' : Option (List ℕ)) : Type 0 where
  pub taken : List ℕ
  pub stands : S
  pub due : List ℕ
  pub came : HasRead left left' taken true
  pub good : feeding.closed taken stands due
  pub text : Appends written written' due

-- what has come has a line outside the grammar, and what is due up to it was written, with its number
pub record IsStopped {S : Type 0} (feeding : Feeding S) (left left' written written' : Option (List ℕ)) : Type 0 where
  pub taken : List ℕ
  pub ended : Bool
  pub due : List ℕ
  pub came : HasRead left left' taken ended
  pub bad : feeding.refused ended taken due
  pub text : Appends written written' due

-- a prefix of what is due for a beginning of the bytes was written; the input's end belongs to it only where it has
-- come
pub record FrontIsWritten {S : Type 0} (feeding : Feeding S) (ended : Bool) (taken : List ℕ)
    (written written' : Option (List ℕ)) : Type 0 where
  pub before : List ℕ
  pub rest : List ℕ
  pub whole : Bool
  pub due : List ℕ
  pub parts : taken ≡ before ++ rest
  pub at_end : whole ≡ true → (ended ≡ true) × (rest ≡ [])
  pub is_due : IsDueFor feeding whole before due
  pub text : AppendsFront written written' due

-- a prefix of what is due for a beginning of what has come was written
pub record IsCutOff {S : Type 0} (feeding : Feeding S) (left left' written written' : Option (List ℕ)) : Type 0 where
  pub taken : List ℕ
  pub ended : Bool
  pub came : HasRead left left' taken ended
  pub front : FrontIsWritten feeding ended taken written written'

-- at least 2^40 bytes came, and what is due for them was written
pub record IsSpent {S : Type 0} (feeding : Feeding S) (left left' written written' : Option (List ℕ)) : Type 0 where
  pub begun : IsBegun feeding left left' written written'
  pub many : most_reads ≤ length begun.taken

-- how the reading of the input of a feeder ends
abbrev pub FeederEnds : {S : Type 0} → Feeding S → Option (List ℕ) → Option (List ℕ) → Option (List ℕ)
    → Option (List ℕ) → End → Type 0
FeederEnds feeding left left' written written' Done = IsClosed feeding left left' written written'
FeederEnds feeding left left' written written' ReadFault = IsBegun feeding left left' written written'
FeederEnds feeding left left' written written' WriteFault = IsCutOff feeding left left' written written'
FeederEnds feeding left left' written written' Memory = IsCutOff feeding left left' written written'
FeederEnds feeding left left' written written' BadLine = IsStopped feeding left left' written written'
FeederEnds feeding left left' written written' Spent = IsSpent feeding left left' written written'
