use Rattle.std.proofs.Common.{◌≡◌, ◌+◌, ◌++◌, map, vec_len, vec_capacity}
use Rattle.std.specs.Vec.Iter.{into_iter_items, into_iter_len}
use Rattle.lobby_state.specs.Desks.{desks as desk_count}
use Rattle.one_server.specs.declared.part.Part.TheVariants.{Desk as ADesk}
use Rattle.hall_core.proofs.ends.told_apart.Given as goal

abbrev pub invariant-loop-slot : goal.invariant-loop-slot
invariant-loop-slot l = record {
  order : map ADesk l.desks.items ++ into_iter_items l.rest ≡ into_iter_items l.initial.rest;
  left : into_iter_len l.rest + l._slot ≡ desk_count;
  taken : vec_len l.desks ≡ l._slot;
  room : vec_capacity l.desks ≡ vec_capacity l.fn.room;
}
