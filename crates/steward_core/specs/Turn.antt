-- The acts of a turn of the steward. This server's own.
use Rattle.std.specs.Prelude.{◌≡◌, ℕ, List, ◌++◌}
use Rattle.edge_traits.specs.Calls.{Store}
use Rattle.lobby_shelf.specs.declared.order.Order.{Order}
use Rattle.lobby_store.specs.Carrying.{CarriesPerhaps}
use Rattle.one_server.specs.Running.{Log, Made, RunnerState}
use Rattle.steward_core.specs.Clearing.{IsClearing}
use Rattle.steward_core.specs.Saving.{HasCalled, IsSaving}
use Rattle.steward_core.specs.declared.clearing.ClearingEnd.{ClearingEnd}
use Rattle.steward_core.specs.declared.clearing.ClearingEnd.TheVariants as clearing
use Rattle.steward_core.specs.declared.turn.StewardEnd.{StewardEnd}
use Rattle.steward_core.specs.declared.turn.StewardEnd.TheVariants.{Done, Memory}

-- how a turn ended whose halves ended like this: memory that ran out in the first one is told unless the keeper failed
abbrev pub end_of_turn : ClearingEnd → StewardEnd → StewardEnd
end_of_turn clearing.Memory (Done count) = Memory
end_of_turn _ saved = saved

-- the entries of a turn, in which these orders were carried out: desks are cleared, and then orders are saved
pub record IsStewardTurn (moment : ℕ) (end : StewardEnd) (entries : Log) (carried : List Order) : Type 0 where
  pub cleared : ClearingEnd
  pub saved : StewardEnd
  pub first : Log
  pub rest : Log
  pub all : entries ≡ first ++ rest
  pub clearing : IsClearing cleared moment first
  pub saving : IsSaving moment saved rest carried
  pub ends : end ≡ end_of_turn cleared saved

-- a session made a turn, in which a keeper carried these orders out, and perhaps the one that is in doubt
pub record TakesTurn (moment : ℕ) (end : StewardEnd) (before after : Store) (old new : RunnerState) : Type 0 where
  pub entries : Log
  pub carried : List Order
  pub grew : Made old entries new
  pub turn : IsStewardTurn moment end entries carried
  pub kept : CarriesPerhaps before.table after.table carried turn.saving.doubt
  pub called : HasCalled turn.saved carried before.calls after.calls
