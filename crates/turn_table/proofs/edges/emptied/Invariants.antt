use Rattle.std.proofs.Common.{◌≡◌, ℕ, ◌<◌, ◌≤◌, true, false, Some, map, take, vec_len, vec_capacity}
use Rattle.std.specs.Prelude.{slice_index_or}
use Rattle.std.specs.Mem.Slots.{slots_items, slots_len, slots_filled}
use Rattle.turn_table.proofs.edges.emptied.Given as goal

abbrev pub invariant-loop-k : goal.invariant-loop-k
invariant-loop-k g l = record {
  same : slots_items l.closed.slots ≡ slots_items l.fn.closed.slots;
  long : slots_len l.closed.slots ≡ slots_len l.fn.closed.slots;
  count : l.count ≡ slots_len l.fn.closed.slots;
  gone : (j : ℕ) → j < l.k → slice_index_or (slots_filled l.closed.slots) j false ≡ false;
  left : (j : ℕ) → l.k ≤ j → j < l.count → slice_index_or (slots_filled l.closed.slots) j false ≡ true;
  taken : map Some l.room.items ≡ take l.k (slots_items l.fn.closed.slots);
  room_len : vec_len l.room ≡ l.k;
  room_cap : vec_capacity l.room ≡ vec_capacity l.fn.room;
}
