use Rattle.std.proofs.Common.{subst}
use Rattle.edge_traits.specs.Calls.{Store, store_of}
use Rattle.hall_core.specs.Passes.{PassState}
use Rattle.steward_core.specs.Turn.{end_of_turn}
use Rattle.serve_turn.specs.Turns.{MadeTurn, supply_in}
use Rattle.serve_turn.proofs.Halves.{made_halves}
use Rattle.serve_turn.proofs.one_turn.turn.Goals as goal

pub returns-clause-turn : goal.returns-clause-turn
returns-clause-turn g c =
    let s = c.turn_by_halves-cleared in
    let before : Store = store_of g.P.Keeper.table g.P.Keeper.faults g.P.Keeper.calls c.args.keeper.now in
    let after : Store = store_of g.P.Keeper.table g.P.Keeper.faults g.P.Keeper.calls s.new.keeper in
    let end = end_of_turn s.result.0 s.result.1 in
    rw (c.into_pass.ensures, c.supply_in.ensures, c.end_of_turn-end.ensures)
    (subst (λ (p : PassState). MadeTurn end (supply_in s.result.0 end) before after p s.new.runner) c.seat-seat.ensures
    (made_halves c.moment_of-moment.result s.result.0 end before after c.seat-seat.result s.new.runner s.ensures.home
    s.ensures.turn.0 s.ensures.turn.1 s.ensures.agrees))
