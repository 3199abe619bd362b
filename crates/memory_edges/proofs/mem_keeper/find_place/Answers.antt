use Rattle.std.proofs.Common.{sym, ◌∙◌}
use Rattle.memory_edges.proofs.Places.{IsPlace-gap, IsPlace-at}
use Rattle.memory_edges.proofs.mem_keeper.find_place.Goals as goal

pub returns-in-Less : goal.returns-in-Less
returns-in-Less c =
    IsPlace-gap _ _ c.loop-i.i _ c.loop-i-test.true c.index-pairs-i.is c.loop-i.invariant c.requires
    (sym c.key_order.ensures ∙ c.in-Less.is)

pub returns-in-Equal : goal.returns-in-Equal
returns-in-Equal c =
    IsPlace-at _ _ c.loop-i.i _ c.loop-i-test.true c.index-pairs-i.is c.loop-i.invariant c.requires
    (sym c.key_order.ensures ∙ c.in-Equal.is)
