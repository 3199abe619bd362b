use Rattle.std.proofs.Common.{◌≡◌, ◌≤◌, length, take, vec_capacity}
use Rattle.memory_edges.proofs.mem_keeper.copies_of.Given as goal

abbrev pub invariant-loop-pair : goal.invariant-loop-pair
invariant-loop-pair l = record {
  copied : l.copies.items ≡ take l.pair-index l.pairs;
  room : length l.pairs ≤ vec_capacity l.copies;
}
