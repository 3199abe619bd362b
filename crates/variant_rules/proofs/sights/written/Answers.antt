use Rattle.std.proofs.Common.{arith, ◌∙◌, ap}
use Rattle.bitboard_core.specs.Sets.{bit_if}
use Rattle.bitboard_core.proofs.BitsLemmas.{set_bit, clear_bit}
use Rattle.variant_rules.proofs.sights.written.Goals as goal

pub returns-then-holds : goal.returns-then-holds
returns-then-holds c f P man size all e =
    rw c.number.ensures.value
    (set_bit f P c.args.s man size (omega (arith, c.number.ensures)) c.args.set (e ∙ c.if-holds.true) all)

pub returns-else-holds : goal.returns-else-holds
returns-else-holds c f P man size all e =
    rw c.number.ensures.value
    (clear_bit f P c.args.s man size (omega (arith, c.number.ensures)) c.args.set (ap bit_if (e ∙ c.if-holds.false))
    all)
