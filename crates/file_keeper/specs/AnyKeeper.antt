-- What the keeper of a program tells: what the one tells that it is.
use Rattle.std.specs.Prelude.{ℕ}
use Rattle.edge_traits.specs.Calls.{Calls}
use Rattle.file_keeper.specs.declared.any_keeper.AnyKeeper.{AnyKeeper}
use Rattle.file_keeper.specs.declared.any_keeper.AnyKeeper.TheVariants.{Nothing, Held, Read}

-- how many faults it has counted
abbrev pub faults_had : AnyKeeper → ℕ
faults_had (Nothing keeper) = 0
faults_had (Held keeper) = keeper.faults
faults_had (Read keeper) = keeper.faults

-- the calls that it had
abbrev pub calls_had : AnyKeeper → Calls
calls_had (Nothing keeper) = keeper.calls
calls_had (Held keeper) = keeper.calls
calls_had (Read keeper) = keeper.calls
