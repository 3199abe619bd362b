-- The table of a keeper agrees with what a session has seen of the server. This server's own.
use Rattle.std.specs.Prelude.{◌≡◌, ◌≢◌, ℕ, ⊤, List, ◌++◌, None, Some, slice_get}
use Rattle.std.specs.declared.option.Option.{Option}
use Rattle.std.specs.List.{AllByRecursion}
use Rattle.edge_traits.specs.Pairs.{Records}
use Rattle.histories.specs.declared.entry.Entry.{Entry}
use Rattle.histories.specs.History.{state}
use Rattle.lobby_state.specs.Lobby.{LobbyState}
use Rattle.lobby_store.specs.Agreeing.{AgreesWith, TellsSaved}
use Rattle.lobby_store.specs.Carrying.{held}
use Rattle.one_server.specs.declared.act.Act.{Act}
use Rattle.one_server.specs.declared.act.Act.TheVariants.{Lobby}
use Rattle.one_server.specs.declared.act.Timed.{Timed}
use Rattle.one_server.specs.declared.part.Part.{Part}
use Rattle.one_server.specs.declared.part.Part.TheVariants.{Lobby as TheLobby}
use Rattle.one_server.specs.declared.reply.Reply.{Reply}
use Rattle.one_server.specs.House.{house}
use Rattle.one_server.specs.Running.{Log, RunnerState}
use Rattle.one_server.specs.Whole.{IsWhole}

-- the state that the session has seen
abbrev pub state_seen : RunnerState → List Part
state_seen it = state house it.opening it.seen

-- the table agrees with the lobby of that state
abbrev pub AgreesSeen : Records → RunnerState → Type 0
AgreesSeen table it =
    (lobby : LobbyState) → slice_get (state_seen it) 0 ≡ Some (TheLobby lobby) → AgreesWith (held table) lobby

-- the act tells save orders as saved
abbrev pub SaysSaved : Act → Type 0
SaysSaved (Lobby act) = TellsSaved act
SaysSaved _ = ⊥

-- the entry isn't one by which another session tells orders as saved
abbrev pub IsNoOthers : ℕ → Entry Timed Reply → Type 0
IsNoOthers number e = e.session ≢ number → SaysSaved e.act.act → ⊥

-- in what the session has seen since, no other session tells orders as saved
pub record NoOthersSave (old new : RunnerState) : Type 0 where
  pub gained : Log
  pub is : new.seen ≡ old.seen ++ gained
  pub none : AllByRecursion (IsNoOthers old.number) gained

-- a table that is told, and that agreed, still agrees, where the server opened with a whole state and no other session
-- tells orders as saved
abbrev pub StaysAgreed : Option Records → Option Records → RunnerState → RunnerState → Type 0
StaysAgreed (Some before) (Some after) old new =
    IsWhole old.opening → NoOthersSave old new → AgreesSeen before old → AgreesSeen after new
StaysAgreed (Some before) None old new = ⊥
StaysAgreed None after old new = ⊤
