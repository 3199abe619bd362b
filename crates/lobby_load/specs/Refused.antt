-- Why a store wasn't loaded or opened.
use Rattle.std.specs.Prelude.{ℕ, List, Ok, Err, Result}
use Rattle.lobby_load.specs.declared.refusals.LoadRefusal.{LoadRefusal}
use Rattle.lobby_load.specs.declared.refusals.LoadRefusal.TheVariants as load
use Rattle.lobby_load.specs.declared.refusals.StoreFault.{StoreFault}
use Rattle.lobby_load.specs.declared.refusals.StoreFault.TheVariants as store

-- the fact holds of the key whose record was refused
abbrev pub OnBadRecord : {A : Type 0} → Result A LoadRefusal → (List ℕ → Type 0) → Type 0
OnBadRecord (Err (load.BadRecord key)) P = P key
OnBadRecord answer P = Unit {0}

-- the fact holds where the keeper failed at a load
abbrev pub OnKeeperFault : {A : Type 0} → Result A LoadRefusal → Type 0 → Type 0
OnKeeperFault (Err load.KeeperFault) P = P
OnKeeperFault answer P = Unit {0}

-- the fact holds where the keeper failed at an opening
abbrev pub OnReadFault : {A : Type 0} → Result A StoreFault → Type 0 → Type 0
OnReadFault (Err store.KeeperFault) P = P
OnReadFault answer P = Unit {0}

-- the fact holds where the line couldn't be written
abbrev pub OnWriteFault : {A : Type 0} → Result A StoreFault → Type 0 → Type 0
OnWriteFault (Err store.WriteFault) P = P
OnWriteFault answer P = Unit {0}

-- the fact holds where the fault is that the line couldn't be written
abbrev pub IfWriteFault : StoreFault → Type 0 → Type 0
IfWriteFault store.WriteFault P = P
IfWriteFault fault P = Unit {0}

-- the fact holds unless the fault is that the line couldn't be written
abbrev pub UnlessUnwritten : StoreFault → Type 0 → Type 0
UnlessUnwritten store.WriteFault P = Unit {0}
UnlessUnwritten fault P = P

-- the fact holds unless a store wasn't opened for that fault
abbrev pub UnlessWriteFault : {A : Type 0} → Result A StoreFault → Type 0 → Type 0
UnlessWriteFault (Ok value) P = P
UnlessWriteFault (Err fault) P = UnlessUnwritten fault P

-- the number with which the program ends that opened no store
abbrev pub unopened_status : StoreFault → ℕ
unopened_status store.WriteFault = 3
unopened_status store.KeeperFault = 4
unopened_status store.BadRecord = 5
unopened_status store.Memory = 6
