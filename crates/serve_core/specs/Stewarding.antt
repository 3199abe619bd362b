-- What session 0 does: turns of the steward, one after the other.
use Rattle.std.specs.Prelude.{◌≡◌, ◌⊎◌, ℕ, zero, suc, ◌*◌, ◌≤◌, ⊤, List, [], ◌++◌, Some, slice_get, IfSome}
use Rattle.std.specs.declared.option.Option.{Option}
use Rattle.edge_traits.specs.Calls.{Store}
use Rattle.edge_traits.specs.Door.{DoorTale}
use Rattle.edge_traits.specs.Faults.{Rose}
use Rattle.histories.specs.History.{calls_of, state}
use Rattle.lobby_shelf.specs.declared.order.Order.{Order}
use Rattle.lobby_state.specs.Lobby.{LobbyState}
use Rattle.lobby_store.specs.Carrying.{CarriesPerhaps}
use Rattle.one_server.specs.declared.part.Part.{Part}
use Rattle.one_server.specs.declared.part.Part.TheVariants.{Lobby as TheLobby}
use Rattle.one_server.specs.House.{house}
use Rattle.one_server.specs.Running.{Log}
use Rattle.steward_core.specs.declared.clearing.ClearingEnd.TheVariants as clearing
use Rattle.steward_core.specs.declared.turn.StewardEnd.{StewardEnd}
use Rattle.steward_core.specs.declared.turn.StewardEnd.TheVariants.{Done, KeeperFault, Memory}
use Rattle.steward_core.specs.Saving.{HasCalled, most_answers}
use Rattle.steward_core.specs.Turn.{IsStewardTurn}

-- a turn: how it ended, its entries and their moment, and the save orders that were carried out in it
pub record StewardTurn : Type 0 where
  -- there is
  pub end : StewardEnd
  pub entries : Log
  pub moment : ℕ
  pub carried : List Order
  -- such that
  pub turn : IsStewardTurn moment end entries carried

-- a turn, over a keeper that stood so before it and after: something in it ran out of memory only where memory ran
-- short. The keeper had no calls in it but those by which its orders were carried out, and one more where that failed
-- or ran out of memory: it ended with a keeper fault exactly where its own last call failed, and then the keeper
-- counted that. A table that is told holds what these orders make of it; or, at a keeper fault, perhaps what they and
-- the next one make of it, at which the keeper failed
pub record MayEnd (lack : Type 0) (before now : Store) (turn : StewardTurn) : Type 0 where
  pub called : HasCalled turn.turn.saved turn.carried before.calls now.calls
  pub fault : turn.end ≡ KeeperFault → Rose before.faults now.faults
  pub memory : turn.end ≡ Memory → lack
  pub clearing : turn.turn.cleared ≡ clearing.Memory → lack
  pub kept : CarriesPerhaps before.table now.table turn.carried turn.turn.saving.doubt

-- the entries are those of so many turns, one after the other, over a keeper that stood so before them and after: it
-- had no calls but theirs. Each ended like that, by how the keeper stood before it and after
abbrev pub AreTurns : (Store → Store → StewardTurn → Type 0) → ℕ → Store → Store → Log → Type 0
AreTurns Ends zero before now made = (now ≡ before) × (made ≡ [])
AreTurns Ends (suc n) before now made =
    (first : Log) × (mid : Store) × (last : StewardTurn) × AreTurns Ends n before mid first
    × (mid.faults ≤ now.faults) × Ends mid now last × (made ≡ first ++ last.entries)

-- no save order stands in the lobby of the state
abbrev pub NoOrders : List Part → Type 0
NoOrders parts = (lobby : LobbyState) → slice_get parts 0 ≡ Some (TheLobby lobby) → lobby.shelf.orders ≡ []

-- where a turn was done and nobody else acted since, no order is left, unless it had as many answers of 16 as a turn
-- has at most
abbrev pub LeavesNoOrders : StewardEnd → List Part → Type 0
LeavesNoOrders (Done count) parts = NoOrders parts ⊎ (count ≡ most_answers * 16)
LeavesNoOrders KeeperFault parts = ⊤
LeavesNoOrders Memory parts = ⊤

-- of the entries of a server that opened with these parts session 0 made turns: one for each Quiet of the door, and
-- then the last one, which ended as `last` says, and whose entries are the end of them all. Each ended like that, over
-- a keeper that stood so before the first and after the last, and had no calls but theirs; and the last one left no
-- orders
pub record HasTended (lack : Type 0) (last : StewardEnd) (door : Option DoorTale) (before now : Store)
    (opening : List Part) (seen : Log) : Type 0 where
  -- there is
  pub count : ℕ
  pub first : Log
  pub mid : Store
  pub turn : StewardTurn
  pub earlier : Log
  -- such that
  pub turns : AreTurns (MayEnd lack) count before mid first
  pub quiets : IfSome door (λ tale. count ≡ tale.quiets)
  pub counted : mid.faults ≤ now.faults
  pub ended : turn.end ≡ last
  pub ends : MayEnd lack mid now turn
  pub made_is : calls_of 0 seen ≡ first ++ turn.entries
  pub stands_last : seen ≡ earlier ++ turn.entries
  pub orders : LeavesNoOrders last (state house opening seen)
