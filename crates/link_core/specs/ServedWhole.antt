-- What it is to serve a link whole by the entries of a session. Of its facts those that a link which was served in part
-- shares are stated for every way to end. This server's own.
use Rattle.std.specs.Prelude.{◌≡◌, ◌⊎◌, ℕ, ◌≤◌, ⊤, Bool, true, false, ◌||◌, List, [], ◌∷◌, ◌++◌, length}
use Rattle.std.specs.declared.option.Option.{Option}
use Rattle.edge_traits.specs.Faults.{Rose}
use Rattle.edge_traits.specs.Link.{Extent, Handed, Sign, Tale}
use Rattle.edge_traits.specs.WhereTold.{WhereTold}
use Rattle.histories.specs.History.{IsPrefix}
use Rattle.edge_traits.specs.Source.{most_reads}
use Rattle.one_server.specs.Running.{Log}
use Rattle.session_core.specs.declared.input.Input.{Input}
use Rattle.session_core.specs.Course.{Follows}
use Rattle.session_core.specs.Going.{departing}
use Rattle.session_core.specs.Memory.{MemoryState, is_gone, newcomer}
use Rattle.session_core.specs.Texts.{opening_text}
use Rattle.link_core.specs.declared.link_end.LinkEnd.{LinkEnd}
use Rattle.link_core.specs.declared.link_end.LinkEnd.TheVariants.{Quit, End, ReadFault, WriteFault, Spent, Memory}
use Rattle.link_core.specs.Arrivals.{inputs_of}
use Rattle.link_core.specs.Talk.{IsShown, Talks, joined}

-- what there is to tell of a link that was served: what was taken from it, and whether the end was given; the inputs
-- that were answered, the entries of the acts for them, what was to be written for each, and what the session
-- remembered then; the entries behind those; and what was written to the link
pub record Dialogue : Type 0 where
  pub taken : List Sign
  pub is_ended : Bool
  pub inputs : List Input
  pub made : Log
  pub pieces : List (List ℕ)
  pub memory : MemoryState
  pub later : Log
  pub written : List ℕ

-- the inputs of what was taken from the link, and of its end if that was given
abbrev pub inputs_taken : Dialogue → List Input
inputs_taken talk = inputs_of talk.taken talk.is_ended

-- what a link had left is what was taken from it, and then what it has left: nothing, where the end was given
pub record TakesFrom (taken : List Sign) (is_ended : Bool) (old new : Tale) : Type 0 where
  pub left_is : old.left ≡ taken ++ new.left
  pub taken_is : new.taken ≡ old.taken ++ taken
  pub ended_is : new.ended ≡ (old.ended || is_ended)
  pub none_left : is_ended ≡ true → new.left ≡ []

-- 1. The acts.

-- the inputs that were answered are all that came. Where the session was asked to quit, a write failed or memory ran
-- out, they are the first of them
abbrev pub Covers : LinkEnd → List Input → List Input → Type 0
Covers Quit inputs come = IsPrefix inputs come
Covers End inputs come = inputs ≡ come
Covers ReadFault inputs come = inputs ≡ come
Covers WriteFault inputs come = IsPrefix inputs come
Covers Spent inputs come = inputs ≡ come
Covers Memory inputs come = IsPrefix inputs come

-- the acts of leaving, made once, where the session had entered
pub record LeavesWhole (shows : ℕ → Bool) (session : ℕ) (memory : MemoryState) (made : Log) : Type 0 where
  -- there is
  pub moment : ℕ
  pub after : MemoryState
  -- such that
  pub shown : IsShown shows moment
  pub follows : Follows (departing memory) session moment made [] after

-- the session's entries are those of the acts for the inputs that were answered, in their order and each once, and then
-- those of leaving
pub record ActsWhole (shows : ℕ → Bool) (session : ℕ) (end : LinkEnd) (talk : Dialogue) (entries : Log) : Type 0 where
  pub answered : Covers end talk.inputs (inputs_taken talk)
  pub talked : Talks shows session talk.inputs newcomer talk.made talk.pieces talk.memory
  pub all : entries ≡ talk.made ++ talk.later
  pub leaves : LeavesWhole shows session talk.memory talk.later

-- 2. What was written.

-- all pieces were written but for the end of the last one
pub record WritesPart (pieces : List (List ℕ)) (written : List ℕ) : Type 0 where
  -- there is
  pub whole : List (List ℕ)
  pub last : List ℕ
  pub part : List ℕ
  -- such that
  pub pieces_are : pieces ≡ whole ++ last ∷ []
  pub part_of : IsPrefix part last
  pub written_is : written ≡ joined whole ++ part

-- what was written is all pieces. Where a write failed or memory ran out, the last one may be cut short
abbrev pub HasWritten : LinkEnd → List (List ℕ) → List ℕ → Type 0
HasWritten Quit pieces written = written ≡ joined pieces
HasWritten End pieces written = written ≡ joined pieces
HasWritten ReadFault pieces written = written ≡ joined pieces
HasWritten WriteFault pieces written = WritesPart pieces written
HasWritten Spent pieces written = written ≡ joined pieces
HasWritten Memory pieces written = WritesPart pieces written

-- the link was written the opening and then what the session said to each input, by the replies to its own acts
pub record WroteAnswers (end : LinkEnd) (talk : Dialogue) (old new : Option Tale) : Type 0 where
  pub text : HasWritten end (opening_text ∷ talk.pieces) talk.written
  pub on_link : WhereTold old new (λ before after. after.written ≡ before.written ++ talk.written)

-- 3. The last read.

-- where a link stood that had given this and been written this
abbrev pub extent_behind : Tale → List Sign → List ℕ → Extent
extent_behind old taken written =
    record { taken = length (old.taken ++ taken); written = length (old.written ++ written); ended = old.ended }

-- nothing was read
pub record NotRead (taken : List Sign) (is_ended : Bool) (old new : Option Tale) : Type 0 where
  pub nothing : taken ≡ []
  pub no_end : is_ended ≡ false
  pub same : WhereTold old new (λ before after. after.at_read ≡ before.at_read)

-- as the last read began, the end hadn't been given, and the session had written its answers to all that it had taken
pub record LastRead (shows : ℕ → Bool) (session : ℕ) (taken : List Sign) (entries : Log) (written : List ℕ)
    (old new : Option Tale) : Type 0 where
  -- there is
  pub signs : List Sign
  pub made : Log
  pub pieces : List (List ℕ)
  pub memory : MemoryState
  -- such that
  pub talked : Talks shows session (inputs_of signs false) newcomer made pieces memory
  pub taken_first : IsPrefix signs taken
  pub made_first : IsPrefix made entries
  pub written_first : IsPrefix (joined (opening_text ∷ pieces)) written
  pub at : WhereTold old new
      (λ before after. after.at_read ≡ extent_behind before signs (joined (opening_text ∷ pieces)))

-- the link wasn't read, or all was answered as its last read began
abbrev pub AnswersFirst : (ℕ → Bool) → ℕ → Dialogue → Log → Option Tale → Option Tale → Type 0
AnswersFirst shows session talk entries old new =
    NotRead talk.taken talk.is_ended old new ⊎ LastRead shows session talk.taken entries talk.written old new

-- 4. The close.

-- the link is closed
abbrev pub HasClosed : Option Tale → Option Tale → Type 0
HasClosed old new = WhereTold old new (λ before after. after.closed ≡ true)

-- 5. The end of the reading.

-- why the link is read no longer: the session has quit; the end was given; the link counted a fault; at least 2^40
-- bytes and pauses were taken; or memory ran out, of which nothing is told
abbrev pub HasEnded : LinkEnd → Dialogue → ℕ → ℕ → Type 0
HasEnded Quit talk before now = is_gone talk.memory ≡ true
HasEnded End talk before now = talk.is_ended ≡ true
HasEnded ReadFault talk before now = Rose before now
HasEnded WriteFault talk before now = Rose before now
HasEnded Spent talk before now = most_reads ≤ length talk.taken
HasEnded Memory talk before now = ⊤

-- these entries of a session served a link whole
pub record ServedWhole (shows : ℕ → Bool) (session : ℕ) (end : LinkEnd) (entries : Log) (old new : Handed)
    : Type 0 where
  -- there is
  pub talk : Dialogue
  -- such that
  -- what was taken is what the link had
  pub took : WhereTold old.tale new.tale (TakesFrom talk.taken talk.is_ended)
  -- the session made its acts for the inputs of that, and left
  pub acts : ActsWhole shows session end talk entries
  -- the link was written the opening and the answers
  pub wrote : WroteAnswers end talk old.tale new.tale
  -- all that had come was answered before the link was read again
  pub read : AnswersFirst shows session talk entries old.tale new.tale
  -- the link is closed
  pub closed : HasClosed old.tale new.tale
  -- the reading came to its end
  pub ended : HasEnded end talk old.faults new.faults
