use Rattle.std.proofs.Common.{◌<◌, length, refl, rules}
use Rattle.std.proofs.lemmas.Option.{slice_get_read}
use Rattle.collections.proofs.Places.{set_back}
use Rattle.collections.proofs.list.Listed.item_mut.Goals as goal

pub returns : goal.returns
returns g c =
    let items = c.self.inside.items.items in
    let place = c.args.place in
    let read = c.index_mut.ensures.value in
    let within : place < length items = rw c.self.view_is c.requires in (
      (refl {a = c.index_mut.result.ghost_name}, λ w. search rules),
      record {
        writes_back = tt;
        value = rw (← c.self.view_is) (slice_get_read items (length items) place _ refl within read);
        rewritten = rw (← c.self.view_is) (set_back items place _ read);
      },
    )
