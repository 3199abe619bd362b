-- How far a session has come in its course, and what it has made and written on the way.
use Rattle.std.specs.Prelude.{◌≡◌, ◌⊎◌, ℕ, true, if◌then◌else◌, List, [], ◌++◌}
use Rattle.one_server.specs.Running.{Log, Made, RunnerState}
use Rattle.session_core.specs.Course.{Course, Done, Follows, Begins, Passes}
use Rattle.session_core.specs.Memory.{MemoryState, has_entered, is_gone}
use Rattle.session_core.specs.Remembering.{Remembers}
use Rattle.session_core.specs.Session.{leaving_course}
use Rattle.session_core.specs.Stages.{course_settled}

-- whoever follows the rest of a course from here, to its end or so far, has followed the whole one, with these entries
-- and this text before
pub record Leads (course rest : Course) (session moment : ℕ) (entries : Log) (put : List ℕ) : Type 0 where
  pub whole : (more : Log) (text : List ℕ) (memory : MemoryState) → Follows rest session moment more text memory
      → Follows course session moment (entries ++ more) (put ++ text) memory
  pub part : (more : Log) → Begins rest session moment more → Begins course session moment (entries ++ more)

-- the session went on in its course, and appended what that says
pub record Went (course rest : Course) (moment : ℕ) (old : RunnerState) (out : List ℕ) (new : RunnerState)
    (out_now : List ℕ) : Type 0 where
  pub entries : Log
  pub put : List ℕ
  pub grew : Made old entries new
  pub leads : Leads course rest old.number moment entries put
  pub appended : out_now ≡ out ++ put

-- the session followed its course to the end, appended a text that is made of the course's, and remembers this
pub record Answered (course : Course) (answer : List ℕ → List ℕ) (moment : ℕ) (old : RunnerState) (out : List ℕ)
    (new : RunnerState) (out_now : List ℕ) (memory : MemoryState) : Type 0 where
  pub entries : Log
  pub text : List ℕ
  pub grew : Made old entries new
  pub follows : Follows course old.number moment entries text memory
  pub appended : out_now ≡ out ++ answer text

-- the session went on in its course, and passed over what ran out of memory
pub record Passed (course rest : Course) (moment : ℕ) (old new : RunnerState) : Type 0 where
  pub entries : Log
  pub grew : Made old entries new
  pub passes : (more : Log) → Passes old.mark rest old.number moment more
      → Passes old.mark course old.number moment (entries ++ more)

-- the session left, and passed over what ran out of memory
pub record LeftInPart (course : Course) (moment : ℕ) (old new : RunnerState) : Type 0 where
  pub entries : Log
  pub grew : Made old entries new
  pub passes : Passes old.mark course old.number moment entries

-- the session left: it made exactly the acts of its leaving course, and remembers this
pub record Left (course : Course) (moment : ℕ) (old new : RunnerState) (memory : MemoryState) : Type 0 where
  pub entries : Log
  pub grew : Made old entries new
  pub follows : Follows course old.number moment entries [] memory

-- the session went on, and remembers what the acts that it made have told
pub record WentOn (course rest : Course) (moment : ℕ) (old : RunnerState) (before : MemoryState) (out : List ℕ)
    (new : RunnerState) (after : MemoryState) (out_now : List ℕ) : Type 0 where
  pub went : Went course rest moment old out new out_now
  pub remembers : Remembers before went.entries after

-- an input ran out of memory: the session made the first acts of its course, and no others, and remembers what they
-- have told
pub record BrokeOff (course : Course) (moment : ℕ) (old : RunnerState) (before : MemoryState) (new : RunnerState)
    (after : MemoryState) : Type 0 where
  pub entries : Log
  pub grew : Made old entries new
  pub begins : Begins course old.number moment entries
  pub remembers : Remembers before entries after

-- an input ran out of memory that was to quit: its course is that of leaving; the session made its acts but for those
-- that ran out of memory, and is gone
pub record LeftShort (course : Course) (moment : ℕ) (old new : RunnerState) (after : MemoryState) : Type 0 where
  pub memory : MemoryState
  pub quits : course_settled course ≡ leaving_course memory
  pub part : LeftInPart (leaving_course memory) moment old new
  pub gone : is_gone after ≡ true

-- an input ran out of memory
abbrev pub Broke : Course → ℕ → RunnerState → MemoryState → RunnerState → MemoryState → Type 0
Broke course moment old before new after =
    BrokeOff course moment old before new after ⊎ LeftShort course moment old new after

-- the acts of leaving, where the session has entered
abbrev pub departing : MemoryState → Course
departing memory = if has_entered memory then leaving_course memory else Done memory
