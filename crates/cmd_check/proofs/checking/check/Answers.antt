use Rattle.cmd_store.specs.declared.outcome.Outcome.TheVariants.{Read}
use Rattle.cmd_store.proofs.Loading.{loads_opened, loads_unopened}
use Rattle.cmd_check.proofs.Checked.{counted, told}
use Rattle.cmd_check.proofs.checking.check.Goals as goal

pub returns-in-Ok-clause-ends : goal.returns-in-Ok-clause-ends
returns-in-Ok-clause-ends g c =
    told (g.P.Keeper.table c.args.keeper.now) _ _ _ _ _ _
    (counted (g.P.Keeper.table c.args.keeper.now) c.in-Ok.lobby _ _ c.in-Ok.ensures.good c.in-Ok.ensures.sized
    c.sizes-accounts.ensures.accounts c.sizes-accounts.ensures.games)
    c.in-Ok.ensures.tells c.tell_counts.ensures.told

pub returns-in-Ok-clause-called : goal.returns-in-Ok-clause-called
returns-in-Ok-clause-called g c =
    loads_opened (g.P.Keeper.calls c.args.keeper.now) (g.P.Keeper.calls c.open_store.new.keeper)
    (Read c.tell_counts.result) tt c.in-Ok.ensures.called

pub returns-in-Err-clause-called : goal.returns-in-Err-clause-called
returns-in-Err-clause-called g c =
    rw c.outcome_of.ensures
    (loads_unopened (g.P.Keeper.calls c.args.keeper.now) (g.P.Keeper.calls c.open_store.new.keeper) c.in-Err.fault
    c.in-Err.ensures.called)
