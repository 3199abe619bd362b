-- The evening that a number makes: which session's line comes when, and what each makes of the server. This server's
-- own.
use Rattle.std.specs.Prelude.{◌≡◌, ℕ, zero, suc, ◌+◌, ◌-◌, List, [], ◌∷◌, ◌++◌, Some, codes, replicate, slice_get, slice_set}
use Rattle.histories.specs.History.{Legal}
use Rattle.one_server.specs.House.{house}
use Rattle.one_server.specs.Running.{Log}
use Rattle.one_server.specs.Server.{ServerState}
use Rattle.cmd_replay.specs.Evening.{EventAnswered, opening_parts}
use Rattle.replay_core.specs.Draws.{drawn, drawn_on}
use Rattle.replay_core.specs.declared.script.ScriptEvent.{ScriptEvent}
use Rattle.replay_core.specs.declared.script.ScriptEvent.TheVariants as event
use Rattle.session_core.specs.Memory.{MemoryState, newcomer}
use Rattle.cmd_demo.specs.Said.{Said, said_by, wish_of}

-- where a demo stands: its server, what its sessions from 1 on remember, the number at which its draws stand, and the
-- moment, in milliseconds
pub record DemoState : Type 0 where
  pub server : ServerState
  pub memories : List MemoryState
  pub number : ℕ
  pub moment : ℕ

-- before its first step: a server with an empty lobby and vacant desks, 40 sessions that are new, and the draws of the
-- number
abbrev pub start : ℕ → DemoState
start number = record {
  server = record { opening = opening_parts; log = [] };
  memories = replicate 40 newcomer;
  number = number;
  moment = 0;
}

-- ---- steps

-- what comes next: a session connects, or says `guest`; a session is drawn, and what comes from it; a session says
-- `quit`
pub data Step : Type 0 where
  Connects : ℕ → Step
  Enters : ℕ → Step
  Turns : Step
  Quits : ℕ → Step

-- an event comes from a session, now: the server and the session go on as the event does it, in a legal history
pub record Comes (session : ℕ) (what : ScriptEvent) (old new : DemoState) : Type 0 where
  pub before : MemoryState
  pub after : MemoryState
  pub bytes : List ℕ
  pub knew : slice_get old.memories (session - 1) ≡ Some before
  pub answered : EventAnswered what session old.moment old.server before new.server after bytes
  pub legal : Legal house new.server.opening new.server.log
  pub memories : new.memories ≡ slice_set old.memories (session - 1) after
  pub number : new.number ≡ old.number
  pub moment : new.moment ≡ old.moment

-- what a turn draws: how much later it is, whose turn it is, and what that session wants to do; then what its line
-- needs
pub record DemoTurn : Type 0 where
  pub moment : ℕ
  pub session : ℕ
  pub said : Said

abbrev pub turn_of : DemoState → DemoTurn
turn_of at =
    let one = drawn_on at.number in
    let two = drawn_on one in
    let session = 1 + drawn one 40 in
    record {
      moment = at.moment + drawn at.number 2000;
      session = session;
      said = said_by (wish_of (drawn two 32)) session (drawn_on two) at.server;
    }

-- the demo once a turn is drawn
abbrev pub with_turn : DemoTurn → DemoState → DemoState
with_turn turn at = record at { number = turn.said.number; moment = turn.moment }

-- a step takes the demo from where it stands
abbrev pub StepGoes : Step → DemoState → DemoState → Type 0
StepGoes (Connects session) old new = Comes session event.Connect old new
StepGoes (Enters session) old new = Comes session (event.Plain (codes "guest")) old new
StepGoes Turns old new = Comes (turn_of old).session (turn_of old).said.event (with_turn (turn_of old) old) new
StepGoes (Quits session) old new = Comes session (event.Plain (codes "quit")) old new

-- steps take it, one after another
abbrev pub Go : List Step → DemoState → DemoState → Type 0
Go [] old new = new ≡ old
Go (step ∷ steps) old new = (mid : DemoState) × StepGoes step old mid × Go steps mid new

-- ---- the whole demo

-- the sessions from 1 to so many connect, and each says `guest`
unfoldable pub all_entering : ℕ → List Step
all_entering zero = []
all_entering (suc before) = all_entering before ++ Connects (before + 1) ∷ Enters (before + 1) ∷ []

-- so many turns
unfoldable pub turns_of : ℕ → List Step
turns_of zero = []
turns_of (suc before) = turns_of before ++ Turns ∷ []

-- the sessions from 1 to so many say `quit`
unfoldable pub quitting : ℕ → List Step
quitting zero = []
quitting (suc before) = quitting before ++ Quits (before + 1) ∷ []

-- 40 sessions come, 4,000 times one of them is drawn, and all quit
unfoldable pub demo_steps : List Step
demo_steps = all_entering 40 ++ turns_of 4000 ++ quitting 40

-- this is the history that a number makes
pub record IsDemo (number : ℕ) (log : Log) : Type 0 where
  pub end : DemoState
  pub goes : Go demo_steps (start number) end
  pub history : log ≡ end.server.log
