use Rattle.std.proofs.Common.{◌≡◌, ◌+◌, false, arith, ap, sym, ◌∙◌}
use Rattle.std.proofs.lemmas.List.{get_or-set_other}
use lib.ListN.{get_elem?}
use Rattle.std.specs.Prelude.{slice_index_or, slice_set}
use Rattle.std.specs.Mem.Slots.{slots_items, slots_filled}
use Rattle.turn_table.proofs.Among.{split_on}
use Rattle.turn_table.proofs.Ends.{flag_gone, room_grows}
use Rattle.turn_table.proofs.edges.emptied.Goals as goal

pub loop-k-preserved : goal.loop-k-preserved
loop-k-preserved g c =
    let i = c.loop-k.invariant in
    let o = c.take.ensures.others in
    let k = c.loop-k.k in
    let fs = slots_filled c.loop-k.closed.slots in
    let there = ap (λ zs. get_elem? zs k) i.same in
    record {
      same = o.0 ∙ i.same;
      long = o.2 ∙ i.long;
      count = i.count;
      gone = λ j h. ap (λ zs. slice_index_or zs j false) o.1 ∙ split_on j k
          (λ e. ap (λ m. slice_index_or (slice_set fs k false) m false) e ∙ flag_gone fs k)
          (λ ne. get_or-set_other fs k j false false ne ∙ i.gone j (omega arith));
      left = λ j h r.
          let ne : j ≡ k → ⊥ = λ e. omega arith in
          ap (λ zs. slice_index_or zs j false) o.1
          ∙ (get_or-set_other fs k j false false ne ∙ i.left j (omega arith) r);
      taken =
          rw c.push_reserved.ensures.items
          (room_grows c.loop-k.room.items (slots_items c.args.closed.slots) k c.in-Some.part i.taken
          (sym there ∙ c.in-Some.ensures.value));
      room_len = c.push_reserved.ensures.len ∙ ap (λ n. n + 1) i.room_len;
      room_cap = c.push_reserved.ensures.capacity ∙ i.room_cap;
    }
