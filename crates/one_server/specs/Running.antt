-- What one act of a session makes of what the session has seen. This server's own.
use Rattle.std.specs.Prelude.{◌≡◌, ℕ, Bool, true, List, [], ◌∷◌, ◌++◌, Result, Ok, Err}
use Rattle.histories.specs.declared.entry.Entry.{Entry}
use Rattle.histories.specs.History.{IsPrefix, calls_of, entry, Legal}
use Rattle.one_server.specs.declared.act.Timed.{Timed}
use Rattle.one_server.specs.declared.part.Part.{Part}
use Rattle.one_server.specs.declared.reply.Reply.{Reply}
use Rattle.one_server.specs.House.{house}
use Rattle.one_server.specs.Replies.{IsReply}
use Rattle.memory.specs.declared.NoMemory.{NoMemory}

-- a history of this server
abbrev pub Log : Type 0
Log = List (Entry Timed Reply)

-- what is known of a session while it runs its acts: its number; the opening state of the server; the mark, which says
-- that acts that need no memory of their own never run out of it; whether the session is by itself, so that nobody
-- else makes acts while it runs its own; the history that it has seen, and its own entries there
pub record RunnerState : Type 0 where
  pub number : ℕ
  pub opening : List Part
  pub mark : Bool
  pub sole : Bool
  pub seen : Log
  pub made : Log

-- what the session has seen is legal, and what it made are its own entries there
pub record IsKnown (it : RunnerState) : Type 0 where
  pub legal : Legal house it.opening it.seen
  pub own : it.made ≡ calls_of it.number it.seen

-- the session made these entries: what it has seen begins with what it had seen, and they are its only new ones there,
-- and all that is new where it is by itself; the rest stays as it was
pub record Made (old : RunnerState) (entries : Log) (new : RunnerState) : Type 0 where
  pub same : new ≡ record old { seen = new.seen; made = new.made }
  pub begins : IsPrefix old.seen new.seen
  pub known : IsKnown new
  pub more : new.made ≡ old.made ++ entries
  pub only : old.sole ≡ true → new.seen ≡ old.seen ++ entries

-- the session was answered: it made this act with this reply, and that is the last that it has seen. The reply tells
-- places at desks, and names the winner of each end
pub record ServerRan (old : RunnerState) (act : Timed) (reply : Reply) (new : RunnerState) : Type 0 where
  pub grew : Made old (entry old.number act reply ∷ []) new
  pub others : Log
  pub ends : new.seen ≡ (old.seen ++ others) ++ entry old.number act reply ∷ []
  pub fits : IsReply reply

-- what an act came to whose reply is written in its place: that reply, where the act was made
abbrev pub in_its_place : Result Unit NoMemory → Reply → Result Reply NoMemory
in_its_place (Ok done) reply = Ok reply
in_its_place (Err e) reply = Err e

-- a session runs an act: it is answered, or it runs out of memory and makes no entry
abbrev pub Runs : RunnerState → Timed → Result Reply NoMemory → RunnerState → Type 0
Runs old act (Ok reply) new = ServerRan old act reply new
Runs old act (Err e) new = Made old [] new
