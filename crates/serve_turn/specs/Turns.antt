-- The turns of the steward that the door's thread makes, one by one.
use Rattle.std.specs.Prelude.{◌≡◌, ℕ}
use Rattle.edge_traits.specs.Calls.{Store}
use Rattle.hall_core.specs.Passes.{HasLooked, PassState, fixed_of, runs_of}
use Rattle.steward_core.specs.Agreement.{StaysAgreed}
use Rattle.steward_core.specs.Turn.{TakesTurn}
use Rattle.steward_core.specs.declared.clearing.ClearingEnd.{ClearingEnd}
use Rattle.steward_core.specs.declared.clearing.ClearingEnd.TheVariants as clearing
use Rattle.steward_core.specs.declared.turn.StewardEnd.{StewardEnd}
use Rattle.steward_core.specs.declared.turn.StewardEnd.TheVariants.{Done, KeeperFault, Memory}
use Rattle.serve_turn.specs.declared.supply.Supply.{Supply}
use Rattle.serve_turn.specs.declared.supply.Supply.TheVariants.{Enough, Short}

-- the first pass made a turn of the steward, at some moment, over a keeper that stood so before it and after; and it is
-- known whether memory ran out in it
pub record MadeTurn (end : StewardEnd) (supply : Supply) (before after : Store) (old new : PassState) : Type 0 where
  pub moment : ℕ
  pub shared : fixed_of new ≡ fixed_of old
  pub turn : TakesTurn moment end before after (runs_of old) (runs_of new)
  pub agrees : StaysAgreed before.table after.table (runs_of old) (runs_of new)
  pub short : end ≡ Memory → supply ≡ Short
  pub short_first : turn.turn.cleared ≡ clearing.Memory → supply ≡ Short

-- whether memory ran out in a turn whose first half ended like this, and the whole of it like that. A keeper fault is
-- no want of memory
abbrev pub supply_in : ClearingEnd → StewardEnd → Supply
supply_in clearing.Memory end = Short
supply_in clearing.Done Memory = Short
supply_in clearing.Done KeeperFault = Enough
supply_in clearing.Done (Done count) = Enough

-- whether memory ran out somewhere, once it did or didn't in a turn
abbrev pub supply_then : Supply → Supply → Supply
supply_then Short before = Short
supply_then Enough before = before

-- the last turn: the pass looked at the history, made a turn, and looked again
pub record TurnsLast (end : StewardEnd) (supply : Supply) (before after : Store) (old new : PassState) : Type 0 where
  pub first : PassState
  pub mid : PassState
  pub looked : HasLooked old first
  pub made : MadeTurn end supply before after first mid
  pub looked_again : HasLooked mid new
