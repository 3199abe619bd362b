-- By which calls of its keeper a store is loaded and opened: by one load. This server's own.
use Rattle.std.specs.Prelude.{◌≡◌, ◌≢◌, Ok, Err, Result}
use Rattle.edge_traits.specs.Calls.{Calls, noted}
use Rattle.edge_traits.specs.declared.call_log.Request.TheVariants.{Load}
use Rattle.edge_traits.specs.declared.keeper.Kept.{Kept}
use Rattle.edge_traits.specs.declared.keeper.Kept.TheVariants.{Done, Failed}
use Rattle.lobby_load.specs.declared.refusals.LoadRefusal.{LoadRefusal}
use Rattle.lobby_load.specs.declared.refusals.LoadRefusal.TheVariants as load
use Rattle.lobby_load.specs.declared.refusals.StoreFault.{StoreFault}
use Rattle.lobby_load.specs.declared.refusals.StoreFault.TheVariants as store

-- what a keeper answered to its load where a store was loaded, or wasn't: a fault of the keeper is told exactly where
-- the load failed
abbrev pub LoadsAt : {A : Type 0} → Result A LoadRefusal → Kept → Type 0
LoadsAt (Ok lobby) answer = answer ≡ Done
LoadsAt (Err (load.BadRecord key)) answer = answer ≡ Done
LoadsAt (Err load.KeeperFault) answer = answer ≡ Failed
LoadsAt (Err load.Memory) answer = answer ≢ Failed

-- the same where a store wasn't opened for that reason
abbrev pub FailsAt : StoreFault → Kept → Type 0
FailsAt store.BadRecord answer = answer ≡ Done
FailsAt store.WriteFault answer = answer ≡ Done
FailsAt store.KeeperFault answer = answer ≡ Failed
FailsAt store.Memory answer = answer ≢ Failed

-- and where it was opened, or wasn't
abbrev pub OpensAt : {A : Type 0} → Result A StoreFault → Kept → Type 0
OpensAt (Ok lobby) answer = answer ≡ Done
OpensAt (Err fault) answer = FailsAt fault answer

-- the keeper had one call, a load, of whose answer this holds
abbrev pub LoadsOnce : Calls → Calls → (Kept → Type 0) → Type 0
LoadsOnce old new P = (answer : Kept) × (new ≡ noted old Load answer) × P answer
