use Rattle.std.proofs.Common.{◌∙◌}
use Rattle.edge_traits.specs.Calls.{store_of}
use Rattle.steward_core.specs.Saving.{last_number}
use Rattle.steward_core.proofs.AgreedStill.{agreed_then, agreed_unsaved, told_agrees}
use Rattle.steward_core.proofs.OrdersSaved.{round_run, round_unasked, said_made}
use Rattle.steward_core.proofs.OrdersTold.{told_first}
use Rattle.steward_core.proofs.saving.save_round.Goals as goal

pub save_told-requires-clause-few : goal.save_told-requires-clause-few
save_told-requires-clause-few g c =
    (told_first c.in-Ok.ensures.ran (c.as_slice.ensures ∙ c.orders_in-orders.ensures)).few

pub returns-clause-round : goal.returns-clause-round
returns-clause-round g c =
    round_run c.in-Ok.ensures.ran (c.as_slice.ensures ∙ c.orders_in-orders.ensures) c.save_told.ensures.saves

pub returns-clause-agrees : goal.returns-clause-agrees
returns-clause-agrees g c =
    let old = g.R.Runner.state c.args.runner.now in
    let mid = g.R.Runner.state c.answered.new.r in
    let new = g.R.Runner.state c.save_told.new.runner in
    let table = g.P.Keeper.table c.args.keeper.now in
    let ran = c.in-Ok.ensures.ran in
    let told = told_first ran (c.as_slice.ensures ∙ c.orders_in-orders.ensures) in
    let saves = c.save_told.ensures.saves in
    let said = said_made c.args.moment (last_number saves.carried) saves.said mid new ran.grew.known saves.tells in
    agreed_then table table (g.P.Keeper.table c.save_told.new.keeper) old mid new _ said.0 ran.grew said.1
    (agreed_unsaved table old mid _ c.requires.known ran.grew (λ bad. bad, tt))
    (told_agrees c.args.moment c.save_told.result c.as_slice.result.now
    (store_of g.P.Keeper.table g.P.Keeper.faults g.P.Keeper.calls c.args.keeper.now)
    (store_of g.P.Keeper.table g.P.Keeper.faults g.P.Keeper.calls c.save_told.new.keeper) mid new ran.grew.known saves
    told)

pub returns-in-Err-clause-agrees : goal.returns-in-Err-clause-agrees
returns-in-Err-clause-agrees g c =
    agreed_unsaved (g.P.Keeper.table c.args.keeper.now) (g.R.Runner.state c.args.runner.now)
    (g.R.Runner.state c.answered.new.r) _ c.requires.known c.in-Err.ensures.ran tt

pub returns-in-Err-clause-round : goal.returns-in-Err-clause-round
returns-in-Err-clause-round g c =
    round_unasked c.args.moment (store_of g.P.Keeper.table g.P.Keeper.faults g.P.Keeper.calls c.args.keeper.now)
    (g.R.Runner.state c.args.runner.now) (g.R.Runner.state c.answered.new.r) c.in-Err.ensures.ran
