-- The machine that cuts lines, as a feeder.
use Rattle.std.specs.Prelude.{ℕ, Bool, true, false, List}
use Rattle.cmd_lines.specs.Feeding.{Feeding}
use Rattle.cmd_lines.specs.Handling.{Reaching, HasBadLine}
use Rattle.cmd_lines.specs.Lines.{lines_of, lines_come}
use Rattle.cmd_lines.specs.Progress.{Progress}
use Rattle.cmd_lines.specs.HandlerStanding.{HandlerStanding}

-- the lines that have come are good, and this text is due for them
abbrev pub HasAnswered : {S : Type 0} → Reaching S → Bool → List ℕ → HandlerStanding S → List ℕ → Type 0
HasAnswered reached false taken standing due = Progress reached taken standing due
HasAnswered reached true taken standing due = reached (lines_of taken) standing.handler due

-- all lines are good, this text is due for them, and the handler was closed
abbrev pub HasClosed : {S : Type 0} → Reaching S → (S → S → Type 0) → List ℕ → HandlerStanding S → List ℕ → Type 0
HasClosed {S} reached closed taken standing due =
    (stands : S) × reached (lines_of taken) stands due × closed stands standing.handler

-- what the machine makes of the bytes of its input
abbrev pub line_feeding : {S : Type 0} → Reaching S → (S → S → Type 0) → List ℕ → Feeding (HandlerStanding S)
line_feeding reached closed ending = record {
  fed = HasAnswered reached;
  refused = λ ended taken due. HasBadLine reached ending (lines_come ended taken) due;
  closed = HasClosed reached closed;
}
