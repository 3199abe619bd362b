use Rattle.std.proofs.Common.{arith}
use Rattle.variant_rules.proofs.HandLemmas.{count_in-le}
use Rattle.variant_rules.proofs.changes.with_capture.Goals as goal

pub with_one_more-requires : goal.with_one_more-requires
with_one_more-requires c = omega (arith, c.requires, count_in-le c.args.hand c.handed_over_as.result)
