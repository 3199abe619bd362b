use Rattle.std.proofs.Common.{List, ◌∷◌, ◌++◌, map, ap, sym, subst, ◌∙◌}
use Rattle.std.specs.Vec.Iter.{into_iter_items}
use Rattle.one_server.specs.declared.part.Part.{Part}
use Rattle.one_server.specs.declared.part.Part.TheVariants.{Desk as ADesk}
use Rattle.one_server.specs.Whole.{IsWhole}
use Rattle.hall_core.proofs.Apart.{first_lobby, next_desk}
use Rattle.hall_core.proofs.ends.told_apart.Goals as goal

pub lobby_of-lobby-requires : goal.lobby_of-lobby-requires
lobby_of-lobby-requires c =
    let tail : List Part = into_iter_items c.next.new.self in
    first_lobby c.in-Some.first tail
    (subst IsWhole (sym c.into_iter-rest.ensures.rest ∙ c.in-Some.ensures.items) c.requires.whole)

pub desk_of-requires : goal.desk_of-requires
desk_of-requires c =
    let tail : List Part = into_iter_items c.next.new.self in
    let rest : List Part = into_iter_items c.next-in-loop-slot.new.self in
    let whole : IsWhole (c.in-Some.first ∷ tail) =
    subst IsWhole (sym c.into_iter-rest.ensures.rest ∙ c.in-Some.ensures.items) c.requires.whole in
    next_desk c.in-Some.first tail c.loop-slot.desks.items c.in-Some-next.part rest whole
    (ap (λ ps. map ADesk c.loop-slot.desks.items ++ ps) (sym c.in-Some-next.ensures.items)
    ∙ c.loop-slot.invariant.order)
