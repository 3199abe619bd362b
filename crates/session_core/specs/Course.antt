-- A course: which acts a session makes, what it writes, and what it knows at the end. This server's own.
use Rattle.std.specs.Prelude.{◌≡◌, ◌⊎◌, ℕ, Bool, true, false, List, [], ◌∷◌, ◌++◌, map, Option, None, Some}
use Rattle.histories.specs.History.{entry}
use Rattle.lobby_state.specs.declared.acts.LobbyAct.TheVariants.{Where, Going, Bye}
use Rattle.lobby_state.specs.declared.acts.LobbyReply.TheVariants as lobby_reply
use Rattle.linked_desk.specs.Acts.{needs_memory}
use Rattle.one_server.specs.declared.act.Act.{Act}
use Rattle.one_server.specs.declared.act.Act.TheVariants.{Lobby, Desk}
use Rattle.one_server.specs.declared.act.Timed.{Timed}
use Rattle.one_server.specs.declared.reply.Reply.{Reply}
use Rattle.one_server.specs.declared.reply.Reply.TheVariants as reply
use Rattle.one_server.specs.Running.{Log}
use Rattle.session_core.specs.Memory.{MemoryState}

-- what a session goes by, from here to its end
pub data Course : Type 0 where
  -- nothing more is made or written, and this is what the session remembers
  Done : MemoryState → Course
  -- an act is made, and its reply says what follows
  Asks : Act → (Reply → Course) → Course
  -- this text is written, and then the rest is done
  Writes : List ℕ → Course → Course

-- the next act, by the replies to the acts that were made; none where the course is done
abbrev pub next_act : Course → List Reply → Option Act
next_act (Done memory) replies = None
next_act (Writes text rest) replies = next_act rest replies
next_act (Asks act rest) [] = Some act
next_act (Asks act rest) (reply ∷ replies) = next_act (rest reply) replies

-- what is written, by the replies to all acts
abbrev pub text_by : Course → List Reply → List ℕ
text_by (Done memory) replies = []
text_by (Writes text rest) replies = text ++ text_by rest replies
text_by (Asks act rest) [] = []
text_by (Asks act rest) (reply ∷ replies) = text_by (rest reply) replies

-- what the session remembers at the end, by the replies to all acts
abbrev pub memory_by : Course → List Reply → Option MemoryState
memory_by (Done memory) replies = Some memory
memory_by (Writes text rest) replies = memory_by rest replies
memory_by (Asks act rest) [] = None
memory_by (Asks act rest) (reply ∷ replies) = memory_by (rest reply) replies

-- an act at its moment
abbrev pub act_at : ℕ → Act → Timed
act_at moment act = record { moment = moment; act = act }

-- the session followed the course to its end: these entries are its acts, all made at this moment, this is the text,
-- and this is what it remembers
abbrev pub Follows : Course → ℕ → ℕ → Log → List ℕ → MemoryState → Type 0
Follows (Done kept) session moment made text memory = (made ≡ []) × (text ≡ []) × (memory ≡ kept)
Follows (Writes put rest) session moment made text memory = (more : List ℕ) × (text ≡ put ++ more)
    × Follows rest session moment made more memory
Follows (Asks act rest) session moment [] text memory = ⊥
Follows (Asks act rest) session moment (e ∷ made) text memory = (e ≡ entry session (act_at moment act) e.reply)
    × Follows (rest e.reply) session moment made text memory

-- the session has followed the course so far: these entries are its first acts
abbrev pub Begins : Course → ℕ → ℕ → Log → Type 0
Begins (Done memory) session moment made = made ≡ []
Begins (Writes put rest) session moment made = Begins rest session moment made
Begins (Asks act rest) session moment [] = Unit {0}
Begins (Asks act rest) session moment (e ∷ made) = (e ≡ entry session (act_at moment act) e.reply)
    × Begins (rest e.reply) session moment made

-- a reply that tells nothing, as which an act counts that was passed over
abbrev pub nothing_told : Reply
nothing_told = reply.Lobby lobby_reply.Done

-- an act takes memory of its own: all do but a few that end or ask for a place, and those of a desk that take none
abbrev pub TakesMemory : Act → Type 0
TakesMemory (Lobby Where) = ⊥
TakesMemory (Lobby Going) = ⊥
TakesMemory (Lobby Bye) = ⊥
TakesMemory (Desk desk serial act) = needs_memory act ≡ true
TakesMemory _ = Unit {0}

-- an act may be passed over, since it ran out of memory: under the mark one that takes memory of its own, else any
abbrev pub MayPass : Bool → Act → Type 0
MayPass true act = TakesMemory act
MayPass false act = Unit {0}

-- the session went by the course to its end with these entries, and passed over acts that ran out of memory
abbrev pub Passes : Bool → Course → ℕ → ℕ → Log → Type 0
Passes mark (Done memory) session moment made = made ≡ []
Passes mark (Writes put rest) session moment made = Passes mark rest session moment made
Passes mark (Asks act rest) session moment made =
    ((reply : Reply) × (later : Log) × (made ≡ entry session (act_at moment act) reply ∷ later)
    × Passes mark (rest reply) session moment later)
    ⊎ (MayPass mark act × Passes mark (rest nothing_told) session moment made)

-- the replies of entries
abbrev pub replies_of : Log → List Reply
replies_of made = map (λ e. e.reply) made
