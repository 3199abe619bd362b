-- The ways in which a command over a store ends: the number that tells of each, and their causes. This program's own.
use Rattle.std.specs.Prelude.{◌≡◌, ◌≢◌, ℕ, refl}
use Rattle.cmd_lines.specs.Ends.{status_of}
use Rattle.cmd_lines.specs.Ends as read
use Rattle.cmd_lines.specs.declared.end.End.{End}
use Rattle.cmd_lines.specs.declared.end.End.TheVariants.{Done, WriteFault, Memory}
use Rattle.edge_traits.specs.declared.keeper.Kept.{Kept}
use Rattle.edge_traits.specs.declared.keeper.Kept.TheVariants.{Failed}
use Rattle.lobby_load.specs.Refused.{unopened_status}
use Rattle.lobby_load.specs.declared.refusals.StoreFault.{StoreFault}
use Rattle.lobby_load.specs.declared.refusals.StoreFault.TheVariants as store
use Rattle.cmd_store.specs.declared.outcome.Outcome.{Outcome}
use Rattle.cmd_store.specs.declared.outcome.Outcome.TheVariants.{Read, BadRecord, KeeperFault, NoGame}

-- the number with which the program ends
abbrev pub status_of_outcome : Outcome → ℕ
status_of_outcome (Read end) = status_of end
status_of_outcome KeeperFault = unopened_status store.KeeperFault
status_of_outcome BadRecord = unopened_status store.BadRecord
status_of_outcome NoGame = 10

-- how a command ends whose store couldn't be opened
abbrev pub outcome_of_fault : StoreFault → Outcome
outcome_of_fault store.BadRecord = BadRecord
outcome_of_fault store.KeeperFault = KeeperFault
outcome_of_fault store.WriteFault = Read WriteFault
outcome_of_fault store.Memory = Read Memory

-- the command ended as one without a store, in a way of which this holds
abbrev pub AsRead : (End → Type 0) → Outcome → Type 0
AsRead P (Read end) = P end
AsRead P BadRecord = ⊥
AsRead P KeeperFault = ⊥
AsRead P NoGame = ⊥

-- the fact holds where a read failed
abbrev pub OnReadFault : Outcome → Type 0 → Type 0
OnReadFault (Read end) P = read.OnReadFault end P
OnReadFault outcome P = Unit {0}

-- the fact holds where a write failed
abbrev pub OnWriteFault : Outcome → Type 0 → Type 0
OnWriteFault (Read end) P = read.OnWriteFault end P
OnWriteFault outcome P = Unit {0}

-- the fact holds where the keeper failed
abbrev pub OnKeeperFault : Outcome → Type 0 → Type 0
OnKeeperFault KeeperFault P = P
OnKeeperFault outcome P = Unit {0}

-- what the keeper answered to the load of a command that ended so: its fault is told exactly where the load failed
abbrev pub EndsAt : Outcome → Kept → Type 0
EndsAt KeeperFault answer = answer ≡ Failed
EndsAt outcome answer = answer ≢ Failed

example_read_to_its_end : status_of_outcome (Read Done) ≡ 0
example_read_to_its_end = refl

example_out_of_memory : status_of_outcome (outcome_of_fault store.Memory) ≡ 6
example_out_of_memory = refl
