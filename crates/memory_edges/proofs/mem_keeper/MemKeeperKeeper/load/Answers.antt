use Rattle.std.proofs.Common.{sym, ap, ◌∙◌}
use Rattle.std.specs.FinMap as map
use Rattle.edge_traits.specs.Pairs.{keys_order}
use Rattle.memory_edges.specs.Shelf.{Shelf}
use Rattle.memory_edges.proofs.Tables.{entries-sorted}
use Rattle.memory_edges.proofs.mem_keeper.MemKeeperKeeper.load.Goals as goal

pub returns-clause-all : goal.returns-clause-all
returns-clause-all c =
    c.in-Ok.ensures ∙ c.as_slice.ensures.value ∙ sym (entries-sorted _ c.self.invariant)
    ∙ ap (λ (s : Shelf). map.entries (map.from_sorted {R = keys_order} s.pairs)) c.self.view_is
