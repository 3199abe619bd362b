use Rattle.std.proofs.Common.{List, ℕ, subst}
use Rattle.edge_traits.specs.Keeper.{HasPut, HasRemoved}
use Rattle.lobby_store.proofs.OrdersOut.{put_carries, removed_carries}
use Rattle.lobby_store.proofs.carrying.carry_one.Goals as goal

pub returns-in-Some-clause-carried : goal.returns-in-Some-clause-carried
returns-in-Some-clause-carried g c =
    let old = g.P.Keeper.table c.args.keeper.now in
    let new = g.P.Keeper.table c.put.new.self in
    put_carries old new c.args.order.now c.in-Some.bytes c.put.result c.in-Some.is
    (subst (λ (key : List ℕ). HasPut old new key c.in-Some.bytes c.put.result) c.as_slice.ensures
    (subst (λ (bytes : List ℕ). HasPut old new c.as_slice.result.now bytes c.put.result) c.as_slice-in-Some.ensures
    c.put.ensures.put))

pub returns-in-None-clause-carried : goal.returns-in-None-clause-carried
returns-in-None-clause-carried g c =
    let old = g.P.Keeper.table c.args.keeper.now in
    let new = g.P.Keeper.table c.remove.new.self in
    removed_carries old new c.args.order.now c.remove.result c.in-None.is
    (subst (λ (key : List ℕ). HasRemoved old new key c.remove.result) c.as_slice-in-None.ensures
    c.remove.ensures.removed)
