use Rattle.std.proofs.Common.{List, MatchOption, Contains, ◌≡◌, sym, subst}
use Rattle.std.specs.declared.option.Option.TheVariants.{Some}
use Rattle.edge_traits.specs.Link.{Handed, Tale}
use Rattle.memory_edges.specs.Wire.{Wire}
use Rattle.memory_edges.specs.MemDoor.{numbered}
use Rattle.memory_edges.proofs.Doors.{rest_of_links}
use Rattle.memory_edges.proofs.mem_door.MemDoor.written.Goals as goal

pub returns : goal.returns
returns c =
    rw (← c.self.view_is)
    (subst (λ (xs : List Wire).
    MatchOption c.written_in.result ((link : Handed) → Contains (numbered xs) (c.args.number, link) → ⊥)
    (λ bytes.
    (link : Handed) × (tale : Tale) × Contains (numbered xs) (c.args.number, link) × (link.tale ≡ Some tale)
    × (bytes.now ≡ tale.written)))
    (rest_of_links c.self.inside.links.items c.self.inside.left)
    (rw (sym c.as_slice.ensures.value) c.written_in.ensures))
