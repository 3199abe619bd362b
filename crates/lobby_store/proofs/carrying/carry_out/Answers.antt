use Rattle.std.proofs.Common.{◌≡◌, ℕ, List, drop, take, sym, subst, ◌+◌, ◌++◌, ◌∙◌, ◌∷◌, [], ap, arith}
use Rattle.std.proofs.lemmas.List.{at_drop_more, take_more}
use Rattle.lobby_shelf.specs.declared.order.Order.{Order}
use Rattle.edge_traits.specs.Calls.{noted}
use Rattle.edge_traits.specs.declared.keeper.Kept.{Kept}
use Rattle.edge_traits.specs.declared.keeper.Kept.TheVariants.{Done}
use Rattle.lobby_store.specs.Carrying.{CallsFor, Carries, CarriesOne, CarriesPerhaps, asked_with, in_doubt}
use Rattle.lobby_store.proofs.OrdersOut.{called_then, carries_cut, carries_then}
use Rattle.lobby_store.proofs.carrying.carry_out.Goals as goal

pub loop-order-preserved : goal.loop-order-preserved
loop-order-preserved g c =
    let old = g.P.Keeper.table c.args.keeper.now in
    let mid = g.P.Keeper.table c.loop-order.keeper in
    let new = g.P.Keeper.table c.carry_one.new.keeper in
    let i = c.loop-order.order-index in
    let one =
    subst (λ (kept : Kept). CarriesOne mid new c.order-item.result kept) c.in-Done.is c.carry_one.ensures.carried in
    let more_orders : take (i + 1) c.args.orders.now ≡ take i c.args.orders.now ++ c.order-item.result ∷ [] =
    take_more c.args.orders.now i c.order-item.result c.loop-order-test.true
    ∙ ap (λ (o : Order). take i c.args.orders.now ++ o ∷ []) (sym c.order-item.is) in
    let was = g.P.Keeper.calls c.args.keeper.now in
    let here = g.P.Keeper.calls c.loop-order.keeper in
    let there = g.P.Keeper.calls c.carry_one.new.keeper in
    let counted = c.loop-order.invariant.counted in
    let more = c.carry_one.ensures.counted in
    record {
      count = ap (λ n. n + 1) c.loop-order.invariant.count;
      carried = subst (Carries old new) (sym more_orders)
          (carries_then old mid new (take i c.args.orders.now) (c.order-item.result ∷ []) c.loop-order.invariant.carried
          one);
      calls = subst (λ (l : List Order). CallsFor Done l was there) (sym more_orders)
          (called_then Done was here there (take i c.args.orders.now) (c.order-item.result ∷ [])
          c.loop-order.invariant.calls
          (subst (λ (kept : Kept). there ≡ noted here (asked_with c.order-item.result.bytes) kept) c.in-Done.is
          c.carry_one.ensures.noted));
      counted = omega (arith, counted, more);
    }

pub returns-in_default-clause-carried : goal.returns-in_default-clause-carried
returns-in_default-clause-carried g c =
    let old = g.P.Keeper.table c.args.keeper.now in
    let mid = g.P.Keeper.table c.loop-order.keeper in
    let new = g.P.Keeper.table c.carry_one.new.keeper in
    let i = c.loop-order.order-index in
    let orders = c.args.orders.now in
    let end = c.carry_one.result in
    let rest = drop (i + 1) orders in
    let next = at_drop_more (in_doubt end) orders i c.order-item.result c.loop-order-test.true
    ∙ ap (λ (o : Order). in_doubt end (o ∷ rest)) (sym c.order-item.is) in
    subst (λ (n : ℕ). CarriesPerhaps old new (take n orders) (in_doubt end (drop n orders)))
    (sym c.loop-order.invariant.count)
    (subst (CarriesPerhaps old new (take i orders)) (sym next)
    (carries_cut end old mid new (take i orders) c.order-item.result rest c.in_default.not-Done
    c.loop-order.invariant.carried c.carry_one.ensures.carried))
