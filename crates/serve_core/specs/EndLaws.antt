-- What follows of how serving ended: whether memory ran out, and that where it ended well no game is lost.
use Rattle.std.specs.Prelude.{◌≡◌, ◌⊎◌, ℕ, ◌*◌, Bool, List, Some, slice_get, IfSome}
use Rattle.std.specs.declared.option.Option.{Option}
use Rattle.edge_traits.specs.Door.{DoorTale}
use Rattle.edge_traits.specs.Pairs.{Records}
use Rattle.histories.specs.History.{state}
use Rattle.linked_desk.specs.declared.ended.Ended.{Ended}
use Rattle.linked_desk.specs.Desk.{DeskState, ended_at, viewer_count}
use Rattle.lobby_state.specs.Lobby.{LobbyState}
use Rattle.lobby_store.specs.Agreeing.{wanted_by}
use Rattle.lobby_store.specs.Carrying.{held}
use Rattle.one_server.specs.declared.part.Part.{Part}
use Rattle.one_server.specs.declared.part.Part.TheVariants.{Lobby as TheLobby, Desk as ADesk}
use Rattle.one_server.specs.House.{house}
use Rattle.hall_core.specs.Pass.{PassState}
use Rattle.steward_core.specs.declared.turn.StewardEnd.{StewardEnd}
use Rattle.steward_core.specs.declared.turn.StewardEnd.TheVariants as steward
use Rattle.steward_core.specs.Saving.{most_answers}
use Rattle.serve_turn.specs.declared.end.ServeEnd.{ServeEnd}
use Rattle.serve_turn.specs.declared.end.ServeEnd.TheVariants.{Memory}
use Rattle.serve_core.specs.Outside.{Sheet}
use Rattle.edge_traits.specs.Calls.{Store}
use Rattle.serve_core.specs.Serving.{AgreesIn, HasServedAll, RanShort}
use Rattle.serve_turn.specs.Stopping.{IsClean}

-- what follows of every server that has served: of how serving ended and how the last turn did, of the keeper before
-- and after, and of the pass
abbrev pub OfEveryServer : (ServeEnd → StewardEnd → Store → Store → PassState → Type 0) → Type 0
OfEveryServer Follows =
    (shows : ℕ → Bool) (opening : List Part) (end : ServeEnd) (door : Option DoorTale) (before after : Sheet)
    (old new : Store) (pass : PassState) → (served : HasServedAll shows opening end door before after old new pass)
    → Follows end served.last old new pass

-- where serving ended well, the pass tells that memory was enough
abbrev pub GoodEndsHadEnough : Type 0
GoodEndsHadEnough = OfEveryServer (λ end last old new pass. IsClean end → ¬ RanShort pass)

-- and where it ended for want of memory, the pass tells that it ran out
abbrev pub ShortEndsHadNot : Type 0
ShortEndsHadNot = OfEveryServer (λ end last old new pass. end ≡ Memory → RanShort pass)

-- the game at the desk is over, and nobody looks on at it any more, neither a player nor anybody else
pub record IsLeftOver (desk : DeskState) : Type 0 where
  -- there is
  pub ended : Ended
  -- such that
  pub is_over : ended_at desk ≡ Some ended
  pub nobody : viewer_count desk ≡ 0

-- no such game is at a desk of this state
abbrev pub NoneLeftOver : List Part → Type 0
NoneLeftOver parts =
    (number : ℕ) (desk : DeskState) → slice_get parts number ≡ Some (ADesk desk) → ¬ IsLeftOver desk

-- where serving ended well, no such game was left at a desk: each was taken off, and went on the shelf where it was
-- adjourned
abbrev pub LeavesNoGame : Type 0
LeavesNoGame =
    OfEveryServer (λ end last old new pass. IsClean end → NoneLeftOver (state house pass.opening pass.seen))

-- the table holds the accounts and the games on the shelf of the state's lobby, each under its key, and nothing else
abbrev pub HoldsAll : Option Records → List Part → Type 0
HoldsAll told parts = (table : Records) × (told ≡ Some table)
    × ((lobby : LobbyState) → slice_get parts 0 ≡ Some (TheLobby lobby)
    → (key : List ℕ) → held table key ≡ wanted_by lobby key)

-- where serving ended well, over a keeper that tells its table, this holds everything that it is to hold for the last
-- state: so no game on the shelf is missing. No order stands any more, unless the last turn had as many answers of 16
-- as a turn has at most
abbrev pub StoresAll : Type 0
StoresAll = OfEveryServer (λ end last old new pass. IsClean end
    → IfSome old.table (λ table. AgreesIn table pass.opening → HoldsAll new.table (state house pass.opening pass.seen)
    ⊎ (last ≡ steward.Done (most_answers * 16))))
