-- What a session remembers behind entries, by what they asked and what was replied. This server's own.
use Rattle.std.specs.Prelude.{◌≡◌, ◌⊎◌, ℕ, Bool, true, false, ◌||◌, if◌then◌else◌, List, [], ◌∷◌, All, Contains}
use Rattle.std.specs.List.{list_any}
use Rattle.histories.specs.declared.entry.Entry.{Entry}
use Rattle.linked_desk.specs.declared.acts.DeskAct.TheVariants as desk_act
use Rattle.linked_desk.specs.declared.acts.DeskReply.TheVariants.{Items}
use Rattle.lobby_state.specs.declared.acts.LobbyAct.TheVariants as lobby_act
use Rattle.lobby_state.specs.declared.acts.LobbyReply.TheVariants.{Entered}
use Rattle.lobby_state.specs.Places.{PlaceList}
use Rattle.one_server.specs.declared.act.Act.{Act}
use Rattle.one_server.specs.declared.act.Act.TheVariants.{Desk, Lobby}
use Rattle.one_server.specs.declared.act.Timed.{Timed}
use Rattle.one_server.specs.declared.reply.Reply.{Reply}
use Rattle.one_server.specs.declared.reply.Reply.TheVariants as reply
use Rattle.one_server.specs.Running.{Log}
use Rattle.session_core.specs.Laws.{LooksAway, places_by}
use Rattle.session_core.specs.Memory.{MemoryState, has_entered}
pub use Rattle.session_asks.specs.Entering.{is_entered}
use Rattle.session_core.specs.Session.{at_place, says_over}
use Rattle.simul_control.specs.declared.place.Place.{Place}

-- the replies of these entries say that the session has come in
abbrev pub any_entered : Log → Bool
any_entered entries = list_any (λ e. is_entered e.reply) entries

-- an act asks the lobby for the places of its player
abbrev pub asks_places : Act → Bool
asks_places (Lobby lobby_act.Where) = true
asks_places (Lobby lobby_act.Fetch) = true
asks_places _ = false

-- the places, as the replies to the acts that asked for them have told them last
abbrev pub places_told : PlaceList → Log → PlaceList
places_told places [] = places
places_told places (e ∷ made) =
    places_told (if asks_places e.act.act then places_by places e.reply else places) made

-- one of these entries asked a game at the desk of a place for its news, and nothing more will come from it
abbrev pub IsOver : Log → Place → Type 0
IsOver made place = (e : Entry Timed Reply) × (serial : ℕ) × Contains made e
    × (e.act.act ≡ Desk place.desk serial desk_act.Fetch) × (says_over e.reply ≡ true)

-- a desk has shown its game
abbrev pub shows_game : Reply → Bool
shows_game (reply.Desk (Items items is_over)) = true
shows_game _ = false

-- one of these entries asked to look on at the game of a place, and was shown it
abbrev pub WasShown : Log → Place → Type 0
WasShown made place = (e : Entry Timed Reply) × Contains made e
    × (e.act.act ≡ at_place place desk_act.Watch) × (shows_game e.reply ≡ true)

-- a session that looked on at the games of some places looks on at those of others, once it has made these entries:
-- where it did before, unless they ended that or told that the game is over, and else only where they were shown it
pub record LooksOn (rows : List Place) (made : Log) (now : List Place) : Type 0 where
  pub still : All (λ place. Contains now place ⊎ LooksAway made place ⊎ IsOver made place) rows
  pub only : All (λ place. Contains rows place ⊎ WasShown made place) now

-- what a session remembers that remembered something and then made these entries: it has entered where it had, or where
-- one of them was answered so; its places are as they have told them last; and it looks on accordingly
pub record Remembers (before : MemoryState) (made : Log) (after : MemoryState) : Type 0 where
  pub inside : has_entered after ≡ (has_entered before || any_entered made)
  pub places : after.places ≡ places_told before.places made
  pub looks : LooksOn before.observed.rows made after.observed.rows

-- a session that was told nothing has entered where it had, and its places and where it looks on are what they were
pub record ToldNothing (old new : MemoryState) : Type 0 where
  pub inside : has_entered new ≡ has_entered old
  pub places : new.places ≡ old.places
  pub looks : new.observed ≡ old.observed
