use Rattle.std.proofs.Common.{subst, sym}
use Rattle.edge_traits.specs.Calls.{Store, store_of}
use Rattle.steward_core.specs.Turn.{TakesTurn}
use Rattle.steward_core.specs.declared.turn.StewardEnd.{StewardEnd}
use Rattle.steward_core.proofs.turn.steward_turn.Goals as goal

pub returns-clause-turn : goal.returns-clause-turn
returns-clause-turn g c =
    let old = g.R.Runner.state c.args.runner.now in
    let new = g.R.Runner.state c.turn_by_halves-cleared.new.runner in
    let before : Store = store_of g.P.Keeper.table g.P.Keeper.faults g.P.Keeper.calls c.args.keeper.now in
    let after : Store =
    store_of g.P.Keeper.table g.P.Keeper.faults g.P.Keeper.calls c.turn_by_halves-cleared.new.keeper in
    subst (λ (e : StewardEnd). TakesTurn c.args.moment e before after old new) (sym c.end_of_turn.ensures)
    c.turn_by_halves-cleared.ensures.turn.0
