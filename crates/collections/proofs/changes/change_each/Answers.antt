use Rattle.std.proofs.Common.{set, ap, sym, ◌∙◌}
use Rattle.collections.proofs.EachStep.{set-changed_below}
use Rattle.collections.proofs.changes.change_each.Goals as goal

pub loop-item-preserved : goal.loop-item-preserved
loop-item-preserved g c =
    let f = g.C.Change.changed c.args.change.now in
    let items = c.loop-item.items in
    let place = c.loop-item.item-index in
    let item = c.item-item in
    ap (λ z. set items place z) (c.change.ensures ∙ ap f (sym item.is))
    ∙ set-changed_below f c.args.items.now items place item.result c.loop-item-test.true c.loop-item.invariant item.is
