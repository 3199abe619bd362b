-- How the reading of the lines of a command ends: what was read, where the handler stands and what was written by then.
use Rattle.std.specs.Prelude.{◌≡◌, ℕ, ◌≤◌, Bool, true, false, List, ◌++◌, length, Option}
use Rattle.std.specs.Io.KnownBytes.{Appends}
use Rattle.edge_traits.specs.Sink.{AppendsFront}
use Rattle.edge_traits.specs.Source.{most_reads}
use Rattle.cmd_lines.specs.Handling.{Reaching, HasBadLine, IsDue}
use Rattle.cmd_lines.specs.Lines.{lines_come}
use Rattle.cmd_lines.specs.Ends.{HasRead}
use Rattle.cmd_lines.specs.declared.end.End.{End}
use Rattle.cmd_lines.specs.declared.end.End.TheVariants.{Done, ReadFault, WriteFault, Memory, BadLine, Spent}

-- all lines that have come are good, and what is due for them was written
pub record AreAnswered {S : Type 0} (reached : Reaching S) (left left' written written' : Option (List ℕ))
    (ended : Bool) : Type 0 where
  pub taken : List ℕ
  pub stands : S
  pub due : List ℕ
  pub came : HasRead left left' taken ended
  pub good : reached (lines_come ended taken) stands due
  pub text : Appends written written' due

-- the input has ended, all its lines were answered, and the handler was closed
pub record AreAllAnswered {S : Type 0} (reached : Reaching S) (closed : S → S → Type 0)
    (left left' written written' : Option (List ℕ)) : Type 0 where
  pub answers : AreAnswered reached left left' written written' true
  pub leaves : S
  pub close : closed answers.stands leaves

-- the lines that have come have one outside the grammar, and what is due up to it was written, with its number
pub record AreStopped {S : Type 0} (reached : Reaching S) (ending : List ℕ)
    (left left' written written' : Option (List ℕ)) : Type 0 where
  pub taken : List ℕ
  pub ended : Bool
  pub due : List ℕ
  pub came : HasRead left left' taken ended
  pub bad : HasBadLine reached ending (lines_come ended taken) due
  pub text : Appends written written' due

-- a prefix of what is due for a prefix of the lines was written
pub record PartIsWritten {S : Type 0} (reached : Reaching S) (ending : List ℕ) (lines : List (List ℕ))
    (written written' : Option (List ℕ)) : Type 0 where
  pub before : List (List ℕ)
  pub rest : List (List ℕ)
  pub due : List ℕ
  pub parts : lines ≡ before ++ rest
  pub is_due : IsDue reached ending before due
  pub text : AppendsFront written written' due

-- a prefix of what is due for a prefix of the lines that have come was written
pub record ArePartAnswered {S : Type 0} (reached : Reaching S) (ending : List ℕ)
    (left left' written written' : Option (List ℕ)) : Type 0 where
  pub taken : List ℕ
  pub ended : Bool
  pub came : HasRead left left' taken ended
  pub part : PartIsWritten reached ending (lines_come ended taken) written written'

-- at least 2^40 bytes came, and their whole lines were answered
pub record AreSpent {S : Type 0} (reached : Reaching S) (left left' written written' : Option (List ℕ)) : Type 0 where
  pub answers : AreAnswered reached left left' written written' false
  pub many : most_reads ≤ length answers.taken

-- how the reading of the lines of a command ends
abbrev pub HandlerEnds : {S : Type 0} → Reaching S → (S → S → Type 0) → List ℕ → Option (List ℕ) → Option (List ℕ)
    → Option (List ℕ) → Option (List ℕ) → End → Type 0
HandlerEnds reached closed ending left left' written written' Done =
    AreAllAnswered reached closed left left' written written'
HandlerEnds reached closed ending left left' written written' ReadFault =
    AreAnswered reached left left' written written' false
HandlerEnds reached closed ending left left' written written' WriteFault =
    ArePartAnswered reached ending left left' written written'
HandlerEnds reached closed ending left left' written written' Memory =
    ArePartAnswered reached ending left left' written written'
HandlerEnds reached closed ending left left' written written' BadLine =
    AreStopped reached ending left left' written written'
HandlerEnds reached closed ending left left' written written' Spent = AreSpent reached left left' written written'
