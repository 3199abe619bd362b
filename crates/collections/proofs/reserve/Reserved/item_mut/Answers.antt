use Rattle.std.proofs.Common.{◌≡◌, ◌<◌, length, refl, rules, ap}
use Rattle.std.proofs.lemmas.Option.{slice_get_read}
use Rattle.collections.specs.ItemsWithRoom.{ItemsWithRoom}
use Rattle.collections.proofs.Places.{set_back}
use Rattle.collections.proofs.reserve.Reserved.item_mut.Goals as goal

pub returns : goal.returns
returns g c =
    let items = c.self.inside.items.items in
    let place = c.args.place in
    let read = c.index_mut.ensures.value in
    let same : items ≡ c.args.self.now.items =
    ap (λ (s : ItemsWithRoom g.row.T.Denot). s.items) c.self.view_is
    in
    let within : place < length items = rw same c.requires in (
      (refl {a = c.index_mut.result.ghost_name}, λ w. search rules),
      record {
        writes_back = tt;
        value = rw (← same) (slice_get_read items (length items) place _ refl within read);
        rewritten = rw (← same) (set_back items place _ read);
      },
    )
