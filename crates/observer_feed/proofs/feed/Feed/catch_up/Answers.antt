use Rattle.std.proofs.Common.{length, map, sym, subst, ap, ◌∙◌}
use Rattle.observer_feed.specs.Feed.{ArePlaces, caught_up}
use Rattle.observer_feed.proofs.Keeping.{places_caught_up}
use Rattle.observer_feed.proofs.feed.Feed.catch_up.Goals as goal

pub invariant_of-self : goal.invariant_of-self
invariant_of-self g c =
    let count = length c.self.inside.items.items in
    let viewers = c.self.inside.viewers in
    subst (ArePlaces count)
    (sym (c.change_each.ensures ∙ ap (λ n. map (caught_up c.args.session n) viewers) c.len-seen.ensures))
    (places_caught_up count c.args.session viewers c.self.invariant)
