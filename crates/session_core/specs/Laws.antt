-- What the acts of a session are, told of the entries that an input makes. This server's own.
use Rattle.std.specs.Prelude.{◌≡◌, ◌⊎◌, ℕ, ◌≤◌, Bool, true, false, if◌then◌else◌, List, [], ◌∷◌, ◌++◌, All, Contains, length, map, Option, Some, slice_get}
use Rattle.std.specs.List.{flat_map}
use Rattle.std.specs.Option.{option_to_list}
use Rattle.histories.specs.declared.entry.Entry.{Entry}
use Rattle.linked_desk.specs.declared.acts.DeskAct.TheVariants as desk_act
use Rattle.lobby_state.specs.declared.acts.LobbyAct.TheVariants as lobby_act
use Rattle.lobby_state.specs.declared.acts.LobbyReply.TheVariants.{Places, Waiting}
use Rattle.lobby_state.specs.Places.{PlaceList}
use Rattle.one_server.specs.declared.act.Act.{Act}
use Rattle.one_server.specs.declared.act.Act.TheVariants.{Desk, Lobby}
use Rattle.one_server.specs.declared.act.Timed.{Timed}
use Rattle.one_server.specs.declared.reply.Reply.{Reply}
use Rattle.one_server.specs.declared.reply.Reply.TheVariants as reply
use Rattle.one_server.specs.Running.{Log}
use Rattle.session_core.specs.declared.input.Input.{Input}
use Rattle.session_core.specs.declared.input.Input.TheVariants.{Line, Quiet}
use Rattle.session_asks.specs.declared.visit.Visit.{Visit}
use Rattle.session_core.specs.Inputs.{is_unanswered}
use Rattle.session_core.specs.Memory.{MemoryState}
use Rattle.session_core.specs.Session.{at_game, at_place, clear_at, is_accepted, says_over}
use Rattle.session_asks.specs.Visits.{all_visits}
use Rattle.simul_control.specs.declared.place.Place.{Place}

-- the acts of entries
abbrev pub acts_made : Log → List Act
acts_made made = map (λ e. e.act.act) made

-- the next act of entries, if there is any
abbrev pub first_act : Log → Option Act
first_act made = slice_get (acts_made made) 0

-- the news of a game in a round: the game, the entry that asked for them, and the one that gave the game up, if one did
pub record Telling : Type 0 where
  pub game : Visit
  pub fetch : Entry Timed Reply
  pub clear : Option (Entry Timed Reply)

abbrev pub entries_of : Telling → Log
entries_of telling = telling.fetch ∷ option_to_list telling.clear

-- the game was asked for its news, and given up exactly where it said that nothing more will come
pub record IsTelling (telling : Telling) : Type 0 where
  pub fetches : telling.fetch.act.act ≡ at_game telling.game desk_act.Fetch
  pub clears : acts_made (option_to_list telling.clear)
      ≡ (if says_over telling.fetch.reply then clear_at telling.game ∷ [] else [])

-- these entries end the looking on at the desk of a place
abbrev pub LooksAway : Log → Place → Type 0
LooksAway made place = (serial : ℕ) × Contains (acts_made made) (Desk place.desk serial desk_act.Unwatch)

-- these entries ask to look on at the game of a place
abbrev pub LooksThere : Log → Place → Type 0
LooksThere made place = Contains (acts_made made) (at_place place desk_act.Watch)

-- the entries of an input end with the round: behind what the input asked for, if anything, the lobby is asked for what
-- waits there, and then each game for its news, in order: those of the places that the lobby has told, and those at
-- which the session looks on. It looks on where it did before, unless the input ended that, and else only where the
-- input asked for it
pub record EndsWithRound (before : MemoryState) (made : Log) : Type 0 where
  pub front : Log
  pub asked : Entry Timed Reply
  pub news : List Telling
  pub looked : List Place
  pub whole : made ≡ front ++ asked ∷ flat_map entries_of news
  pub asks : asked.act.act ≡ Lobby lobby_act.Fetch
  pub each : All IsTelling news
  pub games : (lines : List (List ℕ)) (places : PlaceList) → asked.reply ≡ reply.Lobby (Waiting lines places)
      → map (λ telling. telling.game) news ≡ all_visits places.rows looked
  pub still : All (λ place. LooksAway front place ⊎ Contains looked place) before.observed.rows
  pub only : All (λ place. Contains before.observed.rows place ⊎ LooksThere front place) looked

-- nothing is answered to an input: it is the greeting or an acknowledgement, or comes to a session that has left
abbrev pub is_silent : Input → MemoryState → Bool
is_silent Quiet memory = false
is_silent (Line line) memory = is_unanswered memory line

-- an entry asks to come in
abbrev pub asks_to_enter : Act → Bool
asks_to_enter (Lobby (lobby_act.Enter name digest)) = true
asks_to_enter _ = false

-- the entries of a line of the login: one at most, which asks to come in
pub record IsOfLogin (made : Log) : Type 0 where
  pub few : length made ≤ 1
  pub enters : All (λ e. asks_to_enter e.act.act ≡ true) made

-- an act is a half-move
abbrev pub is_played_move : Act → Bool
is_played_move (Desk desk serial (desk_act.Move word stamp)) = true
is_played_move _ = false

-- the places of a player, as a reply tells them, if it does
abbrev pub places_by : PlaceList → Reply → PlaceList
places_by places (reply.Lobby (Places told)) = told
places_by places (reply.Lobby (Waiting lines told)) = told
places_by places _ = places

-- and as the replies of entries have told them last
abbrev pub places_after : PlaceList → Log → PlaceList
places_after places [] = places
places_after places (e ∷ made) = places_after (places_by places e.reply) made

-- behind a half-move that the desk has accepted, of who gives a simul as the lobby has told last, stands that to the
-- next place
abbrev pub TurnsBehind : MemoryState → Log → Type 0
TurnsBehind before made = (front later : Log) (e : Entry Timed Reply) → made ≡ front ++ e ∷ later
    → is_played_move e.act.act ≡ true → is_accepted e.reply ≡ true → (places_after before.places front).giving ≡ true
    → first_act later ≡ Some (Lobby lobby_act.SimNext)
