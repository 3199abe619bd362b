use Rattle.std.proofs.Common.{◌≡◌, ◌++◌, length}
use Rattle.std.specs.Vec.Iter.{into_iter_items, into_iter_len}
use Rattle.lobby_load.specs.Filling.{HasRows}
use Rattle.lobby_load.proofs.loading.fill.Given as goal

-- the pairs so far were added, and those that are still to come follow them
abbrev pub invariant-loop-pair : goal.invariant-loop-pair
invariant-loop-pair l = record {
  parts : l.yielded ++ into_iter_items l.pair-iterator ≡ into_iter_items l.initial.pair-iterator;
  left : into_iter_len l.pair-iterator ≡ length (into_iter_items l.pair-iterator);
  rows : HasRows l.yielded l.lobby;
}
