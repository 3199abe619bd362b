use Rattle.std.proofs.Common.{◌≡◌, ◌+◌, vec_len}
use Rattle.one_server.specs.Whole.{parts_with, vacant_from}
use Rattle.hall_core.proofs.ends.opening_parts.Given as goal

abbrev pub invariant-loop-slot : goal.invariant-loop-slot
invariant-loop-slot l = record {
  items : l.parts.items ≡ parts_with l.fn.lobby (vacant_from 1 l.slot);
  count : vec_len l.parts ≡ l.slot + 1;
}
