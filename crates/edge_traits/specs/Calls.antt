-- The calls of a keeper, each with its answer; and a keeper at a time.
use Rattle.std.specs.Prelude.{ℕ, List, [], ◌∷◌, ◌++◌, Ok, Err, Result}
use Rattle.std.specs.declared.option.Option.{Option}
use Rattle.edge_traits.specs.Pairs.{Records}
use Rattle.edge_traits.specs.declared.call_log.Note.{Note}
use Rattle.edge_traits.specs.declared.call_log.Request.{Request}
use Rattle.edge_traits.specs.declared.keeper.Kept.{Kept}
use Rattle.edge_traits.specs.declared.keeper.Kept.TheVariants.{Done, Failed, Memory}
use Rattle.edge_traits.specs.declared.keeper.KeeperFail.{KeeperFail}
use Rattle.edge_traits.specs.declared.keeper.KeeperFail.TheVariants as fail

-- the calls of a keeper, from the first one on
abbrev pub Calls : Type 0
Calls = List Note

-- a call that was answered so
abbrev pub note : Request → Kept → Note
note request answer = record { request = request; answer = answer }

-- the calls, once one more was answered so
abbrev pub noted : Calls → Request → Kept → Calls
noted calls request answer = calls ++ note request answer ∷ []

-- what became of a load
abbrev pub load_answer : {A : Type 0} → Result A KeeperFail → Kept
load_answer (Ok pairs) = Done
load_answer (Err fail.Failed) = Failed
load_answer (Err fail.Memory) = Memory

-- a keeper at a time: its table, where it tells that; how many faults it has counted; and the calls that it had
pub record Store : Type 0 where
  pub table : Option Records
  pub faults : ℕ
  pub calls : Calls

-- a keeper of which these are the table, the count and the calls
abbrev pub store_of : {K : Type 0} → (K → Option Records) → (K → ℕ) → (K → Calls) → K → Store
store_of table faults calls keeper =
    record { table = table keeper; faults = faults keeper; calls = calls keeper }
