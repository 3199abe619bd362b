use Rattle.std.proofs.Common.{◌≡◌, ◌≤◌, take, vec_capacity}
use Rattle.collections.proofs.copies.duplicates.Given as goal

abbrev pub invariant-loop-item : goal.invariant-loop-item
invariant-loop-item g l = record {
  copied : l.copies.items ≡ take l.item-index l.items;
  room : l.capacity ≤ vec_capacity l.copies;
}
