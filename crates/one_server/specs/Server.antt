-- The server of one thread: the lobby that it opened with, and its whole history. This server's own.
use Rattle.std.specs.Prelude.{◌≡◌, ℕ, true, false, List}
use Rattle.histories.specs.declared.entry.Entry.{Entry}
use Rattle.histories.specs.History.{calls_of, state, Legal}
use Rattle.one_server.specs.declared.act.Timed.{Timed}
use Rattle.one_server.specs.declared.part.Part.{Part}
use Rattle.one_server.specs.declared.reply.Reply.{Reply}
use Rattle.one_server.specs.House.{house}
use Rattle.one_server.specs.Running.{RunnerState}
use Rattle.one_server.specs.Whole.{IsWhole}

-- what contracts see of the server: its opening state, and the acts that were made since, the oldest first
pub record ServerState : Type 0 where
  pub opening : List Part
  pub log : List (Entry Timed Reply)

-- the parts at present: the state of the history
abbrev pub parts_in : ServerState → List Part
parts_in server = state house server.opening server.log

-- the history is legal from a whole opening, and these parts are its state
pub record IsServed (opening : List Part) (log : List (Entry Timed Reply)) (parts : List Part) : Type 0 where
  pub whole : IsWhole opening
  pub legal : Legal house opening log
  pub state : state house opening log ≡ parts

-- what is known of a session that was lent this server: it is by itself, it has seen the whole history, and it may meet
-- running out of memory in any act, since each act is kept
abbrev pub seat_state : ℕ → ServerState → RunnerState
seat_state session server = record {
  number = session;
  opening = server.opening;
  mark = false;
  sole = true;
  seen = server.log;
  made = calls_of session server.log;
}
