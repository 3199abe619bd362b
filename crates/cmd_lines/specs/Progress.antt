-- How far an input has come in the machine that is fed its bytes.
use Rattle.std.specs.Prelude.{◌≡◌, ℕ, ◌+◌, ◌≤◌, true, List, [], ◌++◌, length, take, Ok, Err, Result, ⊤}
use Rattle.cmd_lines.specs.Handling.{Reaching, AfterAnswering, IsOutsideAt, HasBadLine, bad_line}
use Rattle.cmd_lines.specs.Lines.{last_line, whole_lines}
use Rattle.cmd_lines.specs.HandlerStanding.{HandlerStanding}
use Rattle.cmd_lines.specs.declared.stop.Stop.{Stop}
use Rattle.cmd_lines.specs.declared.stop.Stop.TheVariants.{BadLine, Memory}

-- the machine was fed these bytes, and these were written for them; every line that ended was good
pub record Progress {S : Type 0} (reached : Reaching S) (taken : List ℕ) (standing : HandlerStanding S)
    (written : List ℕ) : Type 0 where
  pub kept : standing.kept ≡ take 1024 (last_line taken)
  pub good : reached (whole_lines taken) standing.handler written
  pub number : standing.number ≡ length (whole_lines taken) + 1
  pub count : standing.number ≤ length taken + 1

-- what holds where the machine goes no further
abbrev pub AfterStop : {S : Type 0} → Reaching S → List ℕ → List ℕ → List ℕ → Stop → Type 0
AfterStop reached ending taken written BadLine = HasBadLine reached ending (whole_lines taken) written
AfterStop reached ending taken written Memory = ⊤

-- what holds after bytes were fed
abbrev pub AfterFeed : {S A : Type 0} → Reaching S → List ℕ → List ℕ → HandlerStanding S → List ℕ → Result A Stop
    → Type 0
AfterFeed reached ending taken standing written (Ok u) = Progress reached taken standing written
AfterFeed reached ending taken standing written (Err stop) = AfterStop reached ending taken written stop

-- a line ended, good: whatever the line is of which this front was kept, its answer was made
pub record IsLineAnswered {S : Type 0} (reached : Reaching S) (old : HandlerStanding S) (out : List ℕ)
    (new : HandlerStanding S) (out' : List ℕ) : Type 0 where
  pub answer_line : (line : List ℕ) → old.kept ≡ take 1024 line
      → AfterAnswering reached old.handler line out new.handler out' true
  pub next : new.number ≡ old.number + 1
  pub cleared : new.kept ≡ []

-- a line ended: its answer was made and its text appended, or it is outside the grammar, and its number was appended
abbrev pub AfterLine : {S A : Type 0} → Reaching S → List ℕ → HandlerStanding S → List ℕ → HandlerStanding S → List ℕ
    → Result A Stop → Type 0
AfterLine reached ending old out new out' (Ok u) = IsLineAnswered reached old out new out'
AfterLine reached ending old out new out' (Err BadLine) =
    (out' ≡ out ++ bad_line ending old.number)
    × ((line : List ℕ) → old.kept ≡ take 1024 line → IsOutsideAt reached old.handler line)
AfterLine reached ending old out new out' (Err Memory) = ⊤

-- the fact holds where a line is outside the grammar
abbrev pub OnBadLine : Stop → Type 0 → Type 0
OnBadLine BadLine P = P
OnBadLine Memory P = Unit {0}
