-- The one load of a command over a store, by how the command ended.
use Rattle.std.proofs.Common.{◌≡◌, sym, ◌∙◌}
use Rattle.edge_traits.specs.Calls.{Calls}
use Rattle.edge_traits.specs.declared.keeper.Kept.{Kept}
use Rattle.edge_traits.specs.declared.keeper.Kept.TheVariants.{Done, Failed}
use Rattle.lobby_load.specs.Calling.{FailsAt, LoadsOnce}
use Rattle.lobby_load.specs.declared.refusals.StoreFault.{StoreFault}
use Rattle.lobby_load.specs.declared.refusals.StoreFault.TheVariants as store
use Rattle.cmd_store.specs.Outcomes.{EndsAt, OnKeeperFault, outcome_of_fault}
use Rattle.cmd_store.specs.declared.outcome.Outcome.{Outcome}
use Rattle.cmd_store.specs.declared.outcome.Outcome.TheVariants.{Read, BadRecord, KeeperFault, NoGame}

no_failure : (answer : Kept) → answer ≡ Done → answer ≡ Failed → ⊥
no_failure answer done failed = (let bad : Done ≡ Failed = sym done ∙ failed in cc)

opened_at : (outcome : Outcome) (answer : Kept) → OnKeeperFault outcome ⊥ → answer ≡ Done → EndsAt outcome answer
opened_at (Read end) answer calm done = no_failure answer done
opened_at BadRecord answer calm done = no_failure answer done
opened_at KeeperFault answer calm done = absurd calm
opened_at NoGame answer calm done = no_failure answer done

unopened_at : (fault : StoreFault) (answer : Kept) → FailsAt fault answer → EndsAt (outcome_of_fault fault) answer
unopened_at store.BadRecord answer p = no_failure answer p
unopened_at store.KeeperFault answer p = p
unopened_at store.WriteFault answer p = no_failure answer p
unopened_at store.Memory answer p = p

-- a command that went on once the store was opened
pub loads_opened : (old new : Calls) (outcome : Outcome) → OnKeeperFault outcome ⊥
    → LoadsOnce old new (λ answer. answer ≡ Done) → LoadsOnce old new (EndsAt outcome)
loads_opened old new outcome calm p = (p.0, p.1, opened_at outcome p.0 calm p.2)

-- and one whose store couldn't be opened
pub loads_unopened : (old new : Calls) (fault : StoreFault) → LoadsOnce old new (FailsAt fault)
    → LoadsOnce old new (EndsAt (outcome_of_fault fault))
loads_unopened old new fault p = (p.0, p.1, unopened_at fault p.0 p.2)
