use Rattle.std.proofs.Common.{sym, ◌∙◌}
use Rattle.file_keeper.proofs.Rising.{IsRisen-start, IsRisen-next, IsRisen-end}
use Rattle.file_keeper.proofs.records.is_ascending.Goals as goal

pub loop-i-init : goal.loop-i-init
loop-i-init c = IsRisen-start c.args.pairs.now

pub loop-i-preserved : goal.loop-i-preserved
loop-i-preserved c =
    IsRisen-next _ c.loop-i.i _ _ c.loop-i.auto.i c.loop-i-test.true c.index-pairs-before.is c.index-pairs-i.is
    (sym c.key_order.ensures ∙ c.in-Less.is) c.loop-i.invariant

pub returns : goal.returns
returns c = λ _. IsRisen-end _ c.loop-i.i c.loop-i.auto.i c.loop-i-test.false c.loop-i.invariant
