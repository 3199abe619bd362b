use Rattle.std.proofs.Common.{List, refl, sym, subst, ◌∙◌}
use Rattle.std.proofs.lemmas.List.{take_all}
use Rattle.memory_edges.specs.Wire.{Wire}
use Rattle.memory_edges.specs.MemDoor.{handed}
use Rattle.memory_edges.proofs.Doors.{NoneOf, found_at, none_more}
use Rattle.memory_edges.proofs.mem_door.written_in.Goals as goal

pub loop-link-preserved : goal.loop-link-preserved
loop-link-preserved c =
    none_more c.args.links.now c.loop-link.link-index c.args.number c.link-item.result c.loop-link-test.true
    c.link-item.is (λ e. c.if-number.false (c.number.ensures ∙ e)) c.loop-link.invariant

pub returns : goal.returns
returns c =
    subst (λ (xs : List Wire). NoneOf xs c.args.number)
    (take_all c.loop-link.link-index c.args.links.now c.loop-link-test.false) c.loop-link.invariant

pub returns-then-number : goal.returns-then-number
returns-then-number c =
    let w = c.link-item.result in (
      handed w,
      w.tale,
      found_at c.args.links.now c.loop-link.link-index c.args.number w c.loop-link-test.true c.link-item.is
          (sym c.number.ensures ∙ c.if-number.true),
      refl,
      c.written.ensures,
    )
