use Rattle.std.proofs.Common.{sym, ap, subst, ◌∙◌}
use Rattle.std.specs.FinMap as map
use Rattle.edge_traits.specs.Pairs.{Pairs, IsAscending, keys_order}
use Rattle.memory_edges.specs.Shelf.{Shelf}
use Rattle.memory_edges.proofs.Tables.{IsAscending-without, from_sorted-without}
use Rattle.memory_edges.proofs.mem_keeper.MemKeeperKeeper.remove.Goals as goal

pub invariant_of-self-2 : goal.invariant_of-self-2
invariant_of-self-2 c =
    subst IsAscending (sym c.remove_pair.ensures) (IsAscending-without c.args.key.now _ c.self.invariant)

pub returns-clause-removed : goal.returns-clause-removed
returns-clause-removed c =
    rw c.note-2.ensures.answer
    (ap (λ (pairs : Pairs). map.from_sorted {R = keys_order} pairs) c.remove_pair.ensures
    ∙ from_sorted-without c.args.key.now _ c.self.invariant
    ∙ ap (λ (s : Shelf). map.remove (map.from_sorted {R = keys_order} s.pairs) c.args.key.now) c.self.view_is)
