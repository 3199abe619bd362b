-- What it is to serve a link in part, where memory ran out: the facts of a link that was served whole, but for what ran
-- out of memory. This server's own.
use Rattle.std.specs.Prelude.{◌≡◌, ◌⊎◌, ℕ, Bool, List, [], ◌∷◌, ◌++◌}
use Rattle.edge_traits.specs.Link.{Handed}
use Rattle.edge_traits.specs.WhereTold.{WhereTold}
use Rattle.one_server.specs.Running.{Log}
use Rattle.session_core.specs.declared.input.Input.{Input}
use Rattle.session_core.specs.Course.{Begins, Passes}
use Rattle.session_core.specs.Going.{departing}
use Rattle.session_core.specs.Inputs.{input_course}
use Rattle.session_core.specs.Memory.{MemoryState, newcomer}
use Rattle.session_core.specs.Remembering.{Remembers}
use Rattle.session_core.specs.Session.{leaving_course}
use Rattle.session_core.specs.Stages.{course_settled}
use Rattle.link_core.specs.declared.link_end.LinkEnd.{LinkEnd}
use Rattle.link_core.specs.declared.link_end.LinkEnd.TheVariants.{Quit, End, ReadFault, WriteFault, Spent, Memory}
use Rattle.link_core.specs.ServedWhole.{AnswersFirst, Covers, Dialogue, HasClosed, HasEnded, ServedWhole, TakesFrom}
use Rattle.link_core.specs.ServedWhole.{WroteAnswers, inputs_taken}
use Rattle.link_core.specs.Talk.{IsShown, Talks}

-- the acts of leaving, where the session had entered, but for those that ran out of memory
pub record LeavesShort (shows : ℕ → Bool) (mark : Bool) (session : ℕ) (memory : MemoryState) (made : Log) : Type 0 where
  -- there is
  pub moment : ℕ
  -- such that
  pub shown : IsShown shows moment
  pub passes : Passes mark (departing memory) session moment made

-- the first acts of the input that comes next, at a moment that the clock shows; the session remembers this then, which
-- is what it did and what those acts have told
pub record BeginsNext (shows : ℕ → Bool) (session : ℕ) (inputs come : List Input) (memory there : MemoryState)
    (made : Log) : Type 0 where
  -- there is
  pub next : Input
  pub more : List Input
  pub moment : ℕ
  -- such that
  pub come_is : come ≡ inputs ++ next ∷ more
  pub shown : IsShown shows moment
  pub begins : Begins (input_course next memory) session moment made
  pub remembers : Remembers memory made there

-- nothing was made behind the answered inputs, and the session remembers what it did; or the next input was begun
abbrev pub IsMidway : (ℕ → Bool) → ℕ → List Input → List Input → MemoryState → MemoryState → Log → Type 0
IsMidway shows session inputs come memory there begun =
    ((begun ≡ []) × (there ≡ memory)) ⊎ BeginsNext shows session inputs come memory there begun

-- the session ran out of memory, perhaps in the midst of an input: then it left, from what it remembered there
pub record BreaksOff (shows : ℕ → Bool) (mark : Bool) (session : ℕ) (inputs come : List Input) (memory : MemoryState)
    (made : Log) : Type 0 where
  -- there is
  pub begun : Log
  pub left : Log
  pub there : MemoryState
  -- such that
  pub made_is : made ≡ begun ++ left
  pub midway : IsMidway shows session inputs come memory there begun
  pub leaves : LeavesShort shows mark session there left

-- the session was asked to quit, and an act of leaving ran out of memory
pub record QuitsShort (shows : ℕ → Bool) (mark : Bool) (session : ℕ) (inputs come : List Input) (memory : MemoryState)
    (made : Log) : Type 0 where
  -- there is
  pub next : Input
  pub more : List Input
  pub there : MemoryState
  pub moment : ℕ
  -- such that
  pub come_is : come ≡ inputs ++ next ∷ more
  pub quits : course_settled (input_course next memory) ≡ leaving_course there
  pub shown : IsShown shows moment
  pub passes : Passes mark (leaving_course there) session moment made

-- what the session makes behind the inputs that it answered: acts of leaving alone, from what it remembered; or, where
-- memory ran out before the reading came to its end, perhaps the first acts of one input more
abbrev pub LeavesInPart : LinkEnd → (ℕ → Bool) → Bool → ℕ → Dialogue → Type 0
LeavesInPart Quit shows mark session talk = LeavesShort shows mark session talk.memory talk.later
LeavesInPart End shows mark session talk = LeavesShort shows mark session talk.memory talk.later
LeavesInPart ReadFault shows mark session talk = LeavesShort shows mark session talk.memory talk.later
LeavesInPart WriteFault shows mark session talk = LeavesShort shows mark session talk.memory talk.later
LeavesInPart Spent shows mark session talk = LeavesShort shows mark session talk.memory talk.later
LeavesInPart Memory shows mark session talk =
    BreaksOff shows mark session talk.inputs (inputs_taken talk) talk.memory talk.later
    ⊎ QuitsShort shows mark session talk.inputs (inputs_taken talk) talk.memory talk.later

-- the session's entries are those of the acts for the inputs that were answered, in their order and each once, and then
-- those of leaving, but for what ran out of memory
pub record ActsInPart (shows : ℕ → Bool) (mark : Bool) (session : ℕ) (stopped : LinkEnd) (talk : Dialogue)
    (entries : Log) : Type 0 where
  pub answered : Covers stopped talk.inputs (inputs_taken talk)
  pub talked : Talks shows session talk.inputs newcomer talk.made talk.pieces talk.memory
  pub all : entries ≡ talk.made ++ talk.later
  pub leaves : LeavesInPart stopped shows mark session talk

-- they served it in part: the same, but that memory ran out. Where that was before the reading came to its end,
-- `stopped` is Memory, and then the acts of one input more may be there in part, and the last text too; else an act of
-- leaving ran out of memory, and may be missing
pub record ServedInPart (shows : ℕ → Bool) (mark : Bool) (session : ℕ) (entries : Log) (old new : Handed)
    : Type 0 where
  -- there is
  pub talk : Dialogue
  pub stopped : LinkEnd
  -- such that
  -- what was taken is what the link had
  pub took : WhereTold old.tale new.tale (TakesFrom talk.taken talk.is_ended)
  -- the session made its acts for the inputs of that, and left, but for what ran out of memory
  pub acts : ActsInPart shows mark session stopped talk entries
  -- the link was written the opening and the answers
  pub wrote : WroteAnswers stopped talk old.tale new.tale
  -- all that had come was answered before the link was read again
  pub read : AnswersFirst shows session talk entries old.tale new.tale
  -- the link is closed
  pub closed : HasClosed old.tale new.tale
  -- the reading came to its end, or memory ran out before
  pub ended : HasEnded stopped talk old.faults new.faults

-- these entries of a session served a link, which ended like this: whole, or in part where that is Memory
abbrev pub WasServed : (ℕ → Bool) → Bool → ℕ → LinkEnd → Log → Handed → Handed → Type 0
WasServed shows mark session Quit entries old new = ServedWhole shows session Quit entries old new
WasServed shows mark session End entries old new = ServedWhole shows session End entries old new
WasServed shows mark session ReadFault entries old new = ServedWhole shows session ReadFault entries old new
WasServed shows mark session WriteFault entries old new = ServedWhole shows session WriteFault entries old new
WasServed shows mark session Spent entries old new = ServedWhole shows session Spent entries old new
WasServed shows mark session Memory entries old new = ServedInPart shows mark session entries old new
