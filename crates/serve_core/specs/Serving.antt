-- What a server promises that has served: of its hall, its links, its steward, its store and its text. This server's
-- own.
use Rattle.std.specs.Prelude.{◌≡◌, ℕ, ◌<◌, ◌≤◌, Bool, true, List, [], length, Some, slice_get, IfSome}
use Rattle.std.specs.declared.option.Option.{Option}
use Rattle.edge_traits.specs.Door.{DoorTale}
use Rattle.edge_traits.specs.Pairs.{Records}
use Rattle.histories.specs.History.{calls_of, Legal, state}
use Rattle.lobby_state.specs.Lobby.{LobbyState}
use Rattle.lobby_store.specs.Agreeing.{AgreesWith}
use Rattle.lobby_store.specs.Carrying.{held}
use Rattle.one_server.specs.declared.part.Part.{Part}
use Rattle.one_server.specs.declared.part.Part.TheVariants.{Lobby as TheLobby}
use Rattle.one_server.specs.House.{house}
use Rattle.one_server.specs.Whole.{IsWhole}
use Rattle.hall_core.specs.Pass.{EveryoneJoined, PassState}
use Rattle.steward_core.specs.declared.turn.StewardEnd.{StewardEnd}
use Rattle.serve_turn.specs.declared.end.ServeEnd.{ServeEnd}
use Rattle.serve_core.specs.Outside.{Sheet}
use Rattle.edge_traits.specs.Calls.{Store}
use Rattle.serve_core.specs.Sessions.{HadSession}
use Rattle.serve_core.specs.Stewarding.{HasTended}
use Rattle.serve_core.specs.Text.{SaysText}

-- nothing came through the door yet
abbrev pub IsUnused : DoorTale → Type 0
IsUnused tale = (tale.came ≡ []) × (tale.back ≡ []) × (tale.quiets ≡ 0)

-- the hall: the pass is its first one, and every other was joined into it. What the pass has seen is the history of the
-- hall: legal from the opening state, which is whole, and with no entries but those of session 0 and of the sessions
-- whose passes were split from it
pub record HasOneHistory (opening : List Part) (pass : PassState) : Type 0 where
  pub first : pass.number ≡ 0
  pub opens : pass.opening ≡ opening
  pub opens_whole : IsWhole pass.opening
  pub legal : Legal house pass.opening pass.seen
  pub all_joined : EveryoneJoined pass
  pub no_others : (k : ℕ) → pass.splits < k → calls_of k pass.seen ≡ []

-- memory ran out somewhere while serving, which the pass tells
abbrev pub RanShort : PassState → Type 0
RanShort pass = pass.short ≡ true

-- the links: each session from 1 on served the link that came as the one of its number, which was handed back under
-- that number; as many came as there are sessions, and as many were handed back
pub record EachHadSession (shows : ℕ → Bool) (door : Option DoorTale) (pass : PassState) : Type 0 where
  pub sessions : (k : ℕ) → 0 < k → k ≤ pass.splits → HadSession shows (RanShort pass) door k (calls_of k pass.seen)
  pub came : IfSome door (λ tale. length tale.came ≡ pass.splits)
  pub back : IfSome door (λ tale. length tale.back ≡ pass.splits)

-- the table agrees with the lobby of this state
abbrev pub AgreesIn : Records → List Part → Type 0
AgreesIn table parts =
    (lobby : LobbyState) → slice_get parts 0 ≡ Some (TheLobby lobby) → AgreesWith (held table) lobby

-- the keeper goes on telling its table, and this agrees with the lobby of the state
abbrev pub TellsAgreed : Option Records → List Part → Type 0
TellsAgreed told parts = (table : Records) × (told ≡ Some table) × AgreesIn table parts

-- the store: where the keeper tells its table, and this agreed with the lobby of the opening state, it agrees with that
-- of the state of the whole history
abbrev pub KeepsAgreed : Option Records → Option Records → PassState → Type 0
KeepsAgreed old new pass =
    IfSome old (λ table. AgreesIn table pass.opening → TellsAgreed new (state house pass.opening pass.seen))

-- the hall, the links, the steward, the store and the text, over a door, a sink and a keeper that stand so before and
-- after. A session was served in part, and a turn of the steward ended for want of memory, only where the pass tells
-- that memory ran out; how the last turn ended is told of the steward and of the text
pub record HasServedAll (shows : ℕ → Bool) (opening : List Part) (end : ServeEnd) (door : Option DoorTale)
    (before after : Sheet) (old new : Store) (pass : PassState) : Type 0 where
  -- there is
  pub last : StewardEnd
  -- such that
  pub hall : HasOneHistory opening pass
  pub links : EachHadSession shows door pass
  pub steward : HasTended (RanShort pass) last door old new pass.opening pass.seen
  pub store : KeepsAgreed old.table new.table pass
  pub text : SaysText end pass.short last door pass.splits before after
