use Rattle.std.proofs.Common.{◌+◌, ◌-◌, ◌*◌, arith}
use Rattle.stamp_codec.specs.Spelling.{swapped}
use Rattle.stamp_codec.proofs.Swaps.{swapped_more, swapped_whole}
use Rattle.stamp_codec.proofs.groups.swap_groups.Goals as goal

pub loop-group-preserved : goal.loop-group-preserved
loop-group-preserved c =
    swapped_more (12 * c.loop-group.group) (12 * c.loop-group.group + 12 - 12 * c.loop-group.group)
    (12 * (c.loop-group.group + 1))
    c.loop-group.bytes c.swap_group.new.group (swapped c.args.bytes.now)
    (omega arith) (omega arith) (omega arith) c.swap_group.ensures c.loop-group.invariant

pub returns : goal.returns
returns c =
    swapped_whole (12 * c.loop-group.group) c.loop-group.bytes (swapped c.args.bytes.now) (omega arith)
    c.loop-group.invariant
