use Rattle.std.proofs.Common.{arith}
use Rattle.stamp_codec.proofs.Swaps.{swapped-swapped}
use Rattle.stamp_codec.proofs.laws.whole_groups.Goals as goal

pub returns-clause-filled : goal.returns-clause-filled
returns-clause-filled c n = omega arith

pub returns-clause-few : goal.returns-clause-few
returns-clause-few c n = omega arith

pub returns-clause-undone : goal.returns-clause-undone
returns-clause-undone c = swapped-swapped
