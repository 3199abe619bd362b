-- How far the reading of an input has come, between the source and the sink.
use Rattle.std.specs.Prelude.{◌≡◌, ◌⊎◌, ℕ, ◌*◌, ◌≤◌, Bool, true, false, List, length, Option, Ok, Err, Result}
use Rattle.std.specs.Io.KnownBytes.{Consumes, Appends}
use Rattle.edge_traits.specs.Sink.{AppendsFront}
use Rattle.cmd_lines.specs.Feeding.{Feeding}
use Rattle.cmd_lines.specs.FeederEnds.{FrontIsWritten}
use Rattle.cmd_lines.specs.declared.end.End.{End}
use Rattle.cmd_lines.specs.declared.end.End.TheVariants.{Done, ReadFault, WriteFault, Memory, BadLine, Spent}

-- so many reads gave these bytes, each at least one and at most 1,024, and all that is due was written
pub record Reading {S : Type 0} (feeding : Feeding S) (left left' written written' : Option (List ℕ))
    (stands : S) (reads : ℕ) : Type 0 where
  pub taken : List ℕ
  pub text : List ℕ
  pub came : Consumes left left' taken
  pub wrote : Appends written written' text
  pub fed : feeding.fed false taken stands text
  pub few : reads ≤ length taken
  pub many : length taken ≤ 1024 * reads

-- what holds after bytes were sent
abbrev pub AfterSend : {A : Type 0} → Option (List ℕ) → Option (List ℕ) → List ℕ → Result A End → Type 0
AfterSend written written' bytes (Ok u) = Appends written written' bytes
AfterSend written written' bytes (Err Done) = ⊥
AfterSend written written' bytes (Err ReadFault) = ⊥
AfterSend written written' bytes (Err WriteFault) = AppendsFront written written' bytes
AfterSend written written' bytes (Err Memory) = AppendsFront written written' bytes
AfterSend written written' bytes (Err BadLine) = ⊥
AfterSend written written' bytes (Err Spent) = ⊥

-- the given end comes where the bytes were written
abbrev pub AfterSendLast : Option (List ℕ) → Option (List ℕ) → List ℕ → End → End → Type 0
AfterSendLast written written' bytes end result =
    ((result ≡ end) × Appends written written' bytes)
    ⊎ (((result ≡ WriteFault) ⊎ (result ≡ Memory)) × AppendsFront written written' bytes)

-- these bytes were answered, and these written
pub record IsAnswered {S : Type 0} (feeding : Feeding S) (taken : List ℕ) (stands : S)
    (written written' : Option (List ℕ)) : Type 0 where
  pub text : List ℕ
  pub wrote : Appends written written' text
  pub fed : feeding.fed false taken stands text

-- these bytes have a line outside the grammar, and what is due was written
pub record IsRefused {S : Type 0} (feeding : Feeding S) (ended : Bool) (taken : List ℕ)
    (written written' : Option (List ℕ)) : Type 0 where
  pub text : List ℕ
  pub wrote : Appends written written' text
  pub bad : feeding.refused ended taken text

-- these bytes have a line outside the grammar, or a prefix of what is due was written
abbrev pub IsRefusedOr : {S : Type 0} → Feeding S → Bool → List ℕ → Option (List ℕ) → Option (List ℕ) → End → Type 0
IsRefusedOr feeding ended taken written written' Done = ⊥
IsRefusedOr feeding ended taken written written' ReadFault = ⊥
IsRefusedOr feeding ended taken written written' WriteFault = FrontIsWritten feeding ended taken written written'
IsRefusedOr feeding ended taken written written' Memory = FrontIsWritten feeding ended taken written written'
IsRefusedOr feeding ended taken written written' BadLine = IsRefused feeding ended taken written written'
IsRefusedOr feeding ended taken written written' Spent = ⊥

-- what holds after bytes were answered
abbrev pub AfterAnswer : {S A : Type 0} → Feeding S → List ℕ → S → Option (List ℕ) → Option (List ℕ) → Result A End
    → Type 0
AfterAnswer feeding taken stands written written' (Ok u) = IsAnswered feeding taken stands written written'
AfterAnswer feeding taken stands written written' (Err end) = IsRefusedOr feeding false taken written written' end

-- the input was answered, what is due was written, and the feeder was closed
pub record IsFinished {S : Type 0} (feeding : Feeding S) (taken : List ℕ)
    (written written' : Option (List ℕ)) : Type 0 where
  pub stands : S
  pub text : List ℕ
  pub wrote : Appends written written' text
  pub closed : feeding.closed taken stands text

-- what holds after the input's end
abbrev pub AfterFinish : {S : Type 0} → Feeding S → List ℕ → Option (List ℕ) → Option (List ℕ) → End → Type 0
AfterFinish feeding taken written written' Done = IsFinished feeding taken written written'
AfterFinish feeding taken written written' ReadFault = ⊥
AfterFinish feeding taken written written' WriteFault = FrontIsWritten feeding true taken written written'
AfterFinish feeding taken written written' Memory = FrontIsWritten feeding true taken written written'
AfterFinish feeding taken written written' BadLine = IsRefused feeding true taken written written'
AfterFinish feeding taken written written' Spent = ⊥
