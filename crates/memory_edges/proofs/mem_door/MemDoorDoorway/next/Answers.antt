use Rattle.std.proofs.Common.{◌-◌, take, arith}
use Rattle.std.specs.List.{remove}
use Rattle.edge_traits.specs.declared.doorway.Answered.TheVariants.{Link}
use Rattle.memory_edges.specs.MemDoor.{told_by}
use Rattle.memory_edges.proofs.Doors.{GivesFirst, gives_first}
use Rattle.memory_edges.proofs.mem_door.MemDoorDoorway.next.Goals as goal

given : (c : goal.After-remove)
    → GivesFirst c.self.inside.links.items c.self.inside.all.value.items c.self.inside.left (c.self.inside.left - 1)
    c.self.inside.came c.remove.result
given c =
    let i = c.self.invariant in
    gives_first c.self.inside.links.items c.self.inside.all.value.items c.self.inside.left (c.self.inside.left - 1)
    c.self.inside.came c.remove.result (omega (arith, c.if-self-eq0.false)) i.1 c.remove.ensures.value i.0 i.4

pub invariant_of-self-2 : goal.invariant_of-self-2
invariant_of-self-2 c =
    let i = c.self.invariant in
    let g = given c in
    rw (c.remove.ensures.items, c.remove.ensures.capacity)
    (g.same, g.fits, omega (arith, i.2, c.if-self-eq0.false), i.3, g.rest_new)

pub returns-clause-fresh : goal.returns-clause-fresh
returns-clause-fresh c = (given c).new

pub returns-clause-gives : goal.returns-clause-gives
returns-clause-gives c =
    let g = given c in
    rw (c.remove.ensures.items, ← c.self.view_is) (
      g.told,
      λ j.
          record {
            left = told_by (take (c.self.inside.left - 1) (remove c.self.inside.links.items 0));
            came = g.listed j;
            back = g.back j;
            quiets = 0;
            last = Link;
          },
    )
