-- What a fault says once a bad record was told.
use Rattle.std.proofs.Common.{inr, ℕ, List, Err, refl}
use Rattle.std.specs.declared.option.Option.{Option}
use Rattle.edge_traits.specs.Pairs.{Records}
use Rattle.edge_traits.specs.declared.keeper.Kept.TheVariants as kept
use Rattle.lobby_load.specs.Calling.{FailsAt}
use Rattle.lobby_load.specs.Telling.{IsFirstBad, TellsBadRecord, TellsKey}
use Rattle.lobby_load.specs.declared.refusals.StoreFault.{StoreFault}
use Rattle.lobby_load.specs.declared.refusals.StoreFault.TheVariants.{BadRecord, KeeperFault, WriteFault, Memory}

pub tells_of : (A : Type 0) (table : Option Records) (old new : Option (List ℕ)) (key : List ℕ) (fault : StoreFault)
    → IsFirstBad table key
    → TellsKey key old new fault → TellsBadRecord {A = A} table old new (Err fault)
tells_of A table old new key BadRecord first told = (key, first, told)
tells_of A table old new key KeeperFault first told = absurd told
tells_of A table old new key WriteFault first told = (key, first, told)
tells_of A table old new key Memory first told = inr (key, first, told)

-- a store whose bad record was told wasn't opened, though it was loaded
pub told_at : (key : List ℕ) (old new : Option (List ℕ)) (fault : StoreFault) → TellsKey key old new fault
    → FailsAt fault kept.Done
told_at key old new BadRecord told = refl
told_at key old new KeeperFault told = absurd told
told_at key old new WriteFault told = refl
told_at key old new Memory told = λ bad. cc
