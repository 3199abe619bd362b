use Rattle.std.proofs.Common.{sym, ap, subst, ◌∙◌}
use Rattle.std.specs.FinMap as map
use Rattle.edge_traits.specs.Pairs.{Pairs, IsAscending, keys_order}
use Rattle.memory_edges.specs.Shelf.{Shelf}
use Rattle.memory_edges.proofs.Tables.{IsAscending-put, from_sorted-put}
use Rattle.memory_edges.proofs.mem_keeper.MemKeeperKeeper.put.Goals as goal

pub invariant_of-self-2 : goal.invariant_of-self-2
invariant_of-self-2 c =
    subst IsAscending (sym c.in-Ok.ensures.put) (IsAscending-put c.args.key.now c.args.bytes.now _ c.self.invariant)

pub returns-clause-put : goal.returns-clause-put
returns-clause-put c =
    rw c.note-2.ensures.answer
    (ap (λ (pairs : Pairs). map.from_sorted {R = keys_order} pairs) c.in-Ok.ensures.put
    ∙ from_sorted-put c.args.key.now c.args.bytes.now _ c.self.invariant
    ∙ ap (λ (s : Shelf). map.insert (map.from_sorted {R = keys_order} s.pairs) c.args.key.now c.args.bytes.now)
    c.self.view_is)
