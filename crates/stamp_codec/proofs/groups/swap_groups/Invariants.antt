use Rattle.std.proofs.Common.{◌≡◌, ◌*◌, ◌++◌, take, drop}
use Rattle.stamp_codec.specs.Spelling.{swapped}
use Rattle.stamp_codec.proofs.groups.swap_groups.Given as goal

-- the groups so far are swapped, and those behind them are as they were
abbrev pub invariant-loop-group : goal.invariant-loop-group
invariant-loop-group l = take (12 * l.group) l.bytes ++ swapped (drop (12 * l.group) l.bytes) ≡ swapped l.fn.bytes
