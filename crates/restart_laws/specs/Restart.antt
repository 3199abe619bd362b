-- What the next server opens with, over the store that one has left. This server's own.
use Rattle.std.specs.Prelude.{◌≡◌, ◌⊎◌, ℕ, ◌*◌, Bool, List, ◌++◌, Some, slice_get, IfSome}
use Rattle.std.specs.declared.option.Option.{Option}
use Rattle.edge_traits.specs.Calls.{Store}
use Rattle.edge_traits.specs.Door.{DoorTale}
use Rattle.edge_traits.specs.Keeper.{Stays}
use Rattle.hall_core.specs.Pass.{PassState}
use Rattle.histories.specs.History.{state}
use Rattle.lobby_state.specs.Lobby.{LobbyState}
use Rattle.lobby_store.specs.Agreeing.{AgreesWith, wanted_by}
use Rattle.login_handles.specs.Accounts.{account_of}
use Rattle.one_server.specs.House.{house}
use Rattle.one_server.specs.ResumedGames.{ResumesAsLeft}
use Rattle.one_server.specs.Running.{Log}
use Rattle.one_server.specs.Whole.{opened_server}
use Rattle.one_server.specs.declared.part.Part.TheVariants.{Lobby as TheLobby}
use Rattle.serve_call.specs.Opening.{IsLoaded}
use Rattle.serve_core.specs.Outside.{Sheet}
use Rattle.serve_core.specs.Serving.{HasServedAll}
use Rattle.serve_turn.specs.Stopping.{IsClean}
use Rattle.serve_turn.specs.declared.end.ServeEnd.{ServeEnd}
use Rattle.steward_core.specs.Saving.{most_answers}
use Rattle.steward_core.specs.declared.turn.StewardEnd.{StewardEnd}
use Rattle.steward_core.specs.declared.turn.StewardEnd.TheVariants as steward

-- an evening, as a call of `serve` that gives a hall back tells of it: over a keeper that stood so before and after,
-- this lobby was loaded, and served from; serving ended so, with this pass
pub record Evening (old new : Store) (first : LobbyState) (end : ServeEnd) (pass : PassState) : Type 0 where
  -- there is
  pub loaded : Store
  pub shows : ℕ → Bool
  pub door : Option DoorTale
  pub before : Sheet
  pub after : Sheet
  -- such that
  pub opens : IsLoaded old loaded first
  pub served : HasServedAll shows (opened_server first) end door before after loaded new pass

-- how the steward's last turn ended
abbrev pub last_turn : {old new : Store} {first : LobbyState} {end : ServeEnd} {pass : PassState}
    → Evening old new first end pass → StewardEnd
last_turn evening = evening.served.last

-- the lobby of the last state
abbrev pub EndsWith : PassState → LobbyState → Type 0
EndsWith pass last = slice_get (state house pass.opening pass.seen) 0 ≡ Some (TheLobby last)

-- what follows where a server has served, over a keeper that tells its table, and another one over a keeper that tells
-- the same table then: of how the first one ended, how its last turn did, its last lobby, and the second one's first
-- lobby and pass
abbrev pub OfTwoEvenings : (ServeEnd → StewardEnd → LobbyState → LobbyState → PassState → Type 0) → Type 0
OfTwoEvenings Follows =
    (old new again later : Store) (first last next : LobbyState) (end end_later : ServeEnd)
    (pass pass_later : PassState)
    → (one : Evening old new first end pass) → EndsWith pass last → Stays new.table again.table
    → Evening again later next end_later pass_later
    → IfSome old.table (λ table. Follows end (last_turn one) last next pass_later)

-- the next lobby has for each handle the account of the last one, with the same spelling and the same digest of its
-- password, or none where this had none; it has the same adjourned games under the same numbers; and in each state of
-- the evening that it opens a game that is resumed goes on as it was left: with its half-moves and their charges, and
-- so with its positions, the men in hand, the rights, the counts and the clocks
pub record Restores (last next : LobbyState) (pass : PassState) : Type 0 where
  pub accounts : (key : List ℕ) → account_of next.accounts key ≡ account_of last.accounts key
  pub games : next.shelf.games ≡ last.shelf.games
  pub resumes : (part rest : Log) → pass.seen ≡ part ++ rest → ResumesAsLeft (state house pass.opening part)

-- where serving ended well the next server restores what there was, unless the last turn had as many answers of 16
-- orders as a turn has at most
abbrev pub RestartRestores : Type 0
RestartRestores = OfTwoEvenings (λ end turn last next pass_later. IsClean end
    → Restores last next pass_later ⊎ (turn ≡ steward.Done (most_answers * 16)))

-- however serving ended, a store that holds what the next lobby is of holds, once the save orders that stood in the
-- last state are carried out, what it is to hold for the last lobby
abbrev pub OpensBehind : Type 0
OpensBehind = OfTwoEvenings (λ end turn last next pass_later. AgreesWith (wanted_by next) last)
