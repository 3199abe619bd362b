-- The ways in which the reading of an input ends: what was read by then, and the number that tells of each.
use Rattle.std.specs.Prelude.{◌≡◌, ℕ, Bool, true, List, Option, Err, Result}
use Rattle.std.specs.Io.KnownBytes.{Consumes, IsAtEnd}
use Rattle.cmd_lines.specs.declared.end.End.{End}
use Rattle.cmd_lines.specs.declared.end.End.TheVariants.{Done, ReadFault, WriteFault, Memory, BadLine, Spent}

-- the source gave these bytes, and where they are all then it is at its end
abbrev pub HasRead : Option (List ℕ) → Option (List ℕ) → List ℕ → Bool → Type 0
HasRead left left' taken ended = Consumes left left' taken × (ended ≡ true → IsAtEnd left')

-- the number with which the program ends
abbrev pub status_of : End → ℕ
status_of Done = 0
status_of ReadFault = 2
status_of WriteFault = 3
status_of Memory = 6
status_of BadLine = 7
status_of Spent = 9

-- the fact holds where a read failed
abbrev pub OnReadFault : End → Type 0 → Type 0
OnReadFault ReadFault P = P
OnReadFault end P = Unit {0}

-- the fact holds where a write failed
abbrev pub OnWriteFault : End → Type 0 → Type 0
OnWriteFault WriteFault P = P
OnWriteFault end P = Unit {0}

-- the fact holds unless a write failed
abbrev pub UnlessWriteFault : {A : Type 0} → Result A End → Type 0 → Type 0
UnlessWriteFault (Err WriteFault) P = Unit {0}
UnlessWriteFault answer P = P
