-- How far a link was served: on the way, and where the reading has ended.
use Rattle.std.specs.Prelude.{◌≡◌, ◌⊎◌, ℕ, ◌≤◌, Bool, true, false, ◌||◌, List, [], ◌∷◌, ◌++◌, length, map, OnOk, Result, Ok, Err}
use Rattle.std.specs.declared.option.Option.{Option}
use Rattle.edge_traits.specs.Faults.{Rose}
use Rattle.edge_traits.specs.Link.{LinkIsOpen, Sign, Tale}
use Rattle.edge_traits.specs.WhereTold.{WhereTold}
use Rattle.histories.specs.History.{IsPrefix}
use Rattle.edge_traits.specs.Source.{most_reads}
use Rattle.line_reader.specs.declared.incoming.Incoming.{Incoming}
use Rattle.line_reader.specs.Reader.{LineReading, fresh, lines_to_come, rest_to_come}
use Rattle.one_server.specs.Running.{Log, Made, RunnerState}
use Rattle.session_core.specs.declared.input.Input.{Input}
use Rattle.session_core.specs.declared.input.Input.TheVariants.{Line}
use Rattle.session_core.specs.Going.{Broke}
use Rattle.session_core.specs.Inputs.{input_course}
use Rattle.session_core.specs.Memory.{MemoryState, is_gone, newcomer}
use Rattle.session_core.specs.Texts.{opening_text}
use Rattle.link_core.specs.declared.link_end.LinkEnd.{LinkEnd}
use Rattle.link_core.specs.declared.link_end.LinkEnd.TheVariants.{Quit, End, ReadFault, WriteFault, Spent, Memory}
use Rattle.link_core.specs.Arrivals.{bytes_of, inputs_of}
use Rattle.link_core.specs.ServedWhole.{Covers, HasWritten, LastRead, NotRead}
use Rattle.link_core.specs.ServedInPart.{IsMidway, QuitsShort}
use Rattle.link_core.specs.Talk.{Answers, IsShown, Talks, joined}

-- these bytes were written, and nothing else happened to the link
abbrev pub Written : List ℕ → Option Tale → Option Tale → Type 0
Written put old new = WhereTold old new (λ before after. after ≡ record before { written = before.written ++ put })

-- a prefix of these bytes was written
pub record WrittenPart (bytes : List ℕ) (old new : Option Tale) : Type 0 where
  pub put : List ℕ
  pub part_of : IsPrefix put bytes
  pub wrote : Written put old new

-- bytes were to be written: all were, or a write failed, or memory ran out
abbrev pub AfterWrite : List ℕ → Option Tale → Option Tale → Result (Unit {0}) LinkEnd → Type 0
AfterWrite bytes old new (Ok u) = Written bytes old new
AfterWrite bytes old new (Err WriteFault) = WrittenPart bytes old new
AfterWrite bytes old new (Err Memory) = WrittenPart bytes old new
AfterWrite bytes old new (Err _) = ⊥

-- the fact holds where a read or a write failed
abbrev pub OnFault : Result (Unit {0}) LinkEnd → Type 0 → Type 0
OnFault (Err ReadFault) fact = fact
OnFault (Err WriteFault) fact = fact
OnFault _ fact = Unit {0}

-- what a step leaves of its link: where it goes on, the link isn't closed; where a fault ended it, the link's count of
-- faults rose; and that count never falls
pub record LeavesLink (result : Result (Unit {0}) LinkEnd) (link_now : Option Tale) (before now : ℕ) : Type 0 where
  pub unclosed : OnOk result (LinkIsOpen link_now)
  pub cause : OnFault result (Rose before now)
  pub counted : before ≤ now

-- where a session that serves a link has come to
pub record Stand : Type 0 where
  pub state : RunnerState
  pub memory : MemoryState
  pub link : Option Tale

abbrev pub stand_of : RunnerState → MemoryState → Option Tale → Stand
stand_of state memory link = record { state = state; memory = memory; link = link }

-- the session answered an input, and what it wrote is this
pub record InputAnswered (shows : ℕ → Bool) (input : Input) (old new : Stand) (piece : List ℕ) : Type 0 where
  pub made : Log
  pub grew : Made old.state made new.state
  pub answers : Answers shows old.state.number input old.memory made piece new.memory

-- and that was written
pub record AnsweredWhole (shows : ℕ → Bool) (input : Input) (old new : Stand) : Type 0 where
  pub piece : List ℕ
  pub answered : InputAnswered shows input old new piece
  pub wrote : Written piece old.link new.link

-- or a prefix of it was
pub record AnsweredPart (shows : ℕ → Bool) (input : Input) (old new : Stand) : Type 0 where
  pub piece : List ℕ
  pub answered : InputAnswered shows input old new piece
  pub wrote : WrittenPart piece old.link new.link

-- the session ran out of memory
pub record BrokeThere (shows : ℕ → Bool) (input : Input) (old new : Stand) : Type 0 where
  pub moment : ℕ
  pub shown : IsShown shows moment
  pub broke : Broke (input_course input old.memory) moment old.state old.memory new.state new.memory
  pub same : new.link ≡ old.link

-- an input came
abbrev pub AfterAnswer : (ℕ → Bool) → Input → Stand → Stand → Result (Unit {0}) LinkEnd → Type 0
AfterAnswer shows input old new (Ok u) = AnsweredWhole shows input old new
AfterAnswer shows input old new (Err Quit) = AnsweredWhole shows input old new × (is_gone new.memory ≡ true)
AfterAnswer shows input old new (Err WriteFault) = AnsweredPart shows input old new
AfterAnswer shows input old new (Err Memory) = AnsweredPart shows input old new ⊎ BrokeThere shows input old new
AfterAnswer shows input old new (Err _) = ⊥

-- what a link tells on the way: it has left what came behind what was taken, and it isn't closed
pub record TellsOpen (taken : List Sign) (is_ended : Bool) (written : List ℕ) (old new : Tale) : Type 0 where
  pub taken_is : new.taken ≡ old.taken ++ taken
  pub left_is : old.left ≡ taken ++ new.left
  pub none_left : is_ended ≡ true → new.left ≡ []
  pub ended_is : new.ended ≡ (old.ended || is_ended)
  pub written_is : new.written ≡ old.written ++ written
  pub closed_is : new.closed ≡ old.closed

-- the link wasn't read, or all that had come was answered as its last read began
abbrev pub WasRead : (ℕ → Bool) → ℕ → List Sign → Bool → Log → List ℕ → Option Tale → Option Tale → Type 0
WasRead shows session taken is_ended made written old new =
    NotRead taken is_ended old new ⊎ LastRead shows session taken made written old new

-- the session has answered the inputs of what was taken, but for these, which come next
pub record Halfway (shows : ℕ → Bool) (start now : Stand) (taken : List Sign) (is_ended : Bool) (due : List Input)
    : Type 0 where
  pub inputs : List Input
  pub made : Log
  pub pieces : List (List ℕ)
  pub grew : Made start.state made now.state
  pub tells : WhereTold start.link now.link (TellsOpen taken is_ended (joined (opening_text ∷ pieces)))
  pub talked : Talks shows start.state.number inputs newcomer made pieces now.memory
  pub come : inputs_of taken is_ended ≡ inputs ++ due
  pub read : WasRead shows start.state.number taken is_ended made (joined (opening_text ∷ pieces)) start.link now.link

-- the reader has been fed all that was taken, and hands out what comes next
pub record Progress (shows : ℕ → Bool) (start now : Stand) (reader : LineReading) (turns : ℕ) : Type 0 where
  pub taken : List Sign
  pub half : Halfway shows start now taken false (map Line (lines_to_come reader []))
  pub given : List Incoming
  pub along : (more : List ℕ) → lines_to_come fresh (bytes_of taken ++ more) ≡ given ++ lines_to_come reader more
  pub rest : (more : List ℕ) → rest_to_come fresh (bytes_of taken ++ more) ≡ rest_to_come reader more
  pub many : turns ≤ length taken

-- what was made behind the answered inputs, as the reading ended: nothing, but where memory ran out
abbrev pub Behind : LinkEnd → (ℕ → Bool) → Bool → ℕ → List Input → List Input → MemoryState → MemoryState → Log → Type 0
Behind Memory shows mark session inputs come memory after begun =
    IsMidway shows session inputs come memory after begun
    ⊎ (QuitsShort shows mark session inputs come memory begun × (is_gone after ≡ true))
Behind _ shows mark session inputs come memory after begun = (begun ≡ []) × (after ≡ memory)

-- why the reading ended, but for faults, whose cause is in the link's count
abbrev pub EndsReading : LinkEnd → List Sign → Bool → MemoryState → Type 0
EndsReading Quit taken is_ended memory = is_gone memory ≡ true
EndsReading End taken is_ended memory = is_ended ≡ true
EndsReading Spent taken is_ended memory = most_reads ≤ length taken
EndsReading _ taken is_ended memory = Unit {0}

-- the reading has ended; the session has still to leave, and the link to be closed
pub record Stops (shows : ℕ → Bool) (end : LinkEnd) (start now : Stand) : Type 0 where
  pub taken : List Sign
  pub is_ended : Bool
  pub written : List ℕ
  pub tells : WhereTold start.link now.link (TellsOpen taken is_ended written)
  pub inputs : List Input
  pub made : Log
  pub pieces : List (List ℕ)
  pub memory : MemoryState
  pub talked : Talks shows start.state.number inputs newcomer made pieces memory
  pub come : Covers end inputs (inputs_of taken is_ended)
  pub begun : Log
  pub grew : Made start.state (made ++ begun) now.state
  pub behind : Behind end shows start.state.mark start.state.number inputs (inputs_of taken is_ended) memory
      now.memory begun
  pub writes : HasWritten end (opening_text ∷ pieces) written
  pub read : WasRead shows start.state.number taken is_ended (made ++ begun) written start.link now.link
  pub ends : EndsReading end taken is_ended memory

-- a step on the way: it goes on, or the reading has ended
abbrev pub AfterStep : (ℕ → Bool) → Stand → Stand → LineReading → ℕ → Result (Unit {0}) LinkEnd → Type 0
AfterStep shows start now reader turns (Ok u) = Progress shows start now reader turns
AfterStep shows start now reader turns (Err end) = Stops shows end start now

-- no line waits in the reader
abbrev pub IsDrained : LineReading → Type 0
IsDrained reader = (lines_to_come reader [] ≡ []) × (reader.fed ≡ [])
