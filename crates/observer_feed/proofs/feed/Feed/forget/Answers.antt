use Rattle.std.proofs.Common.{length, sym, subst}
use Rattle.observer_feed.specs.Feed.{ArePlaces}
use Rattle.observer_feed.proofs.Keeping.{places_without}
use Rattle.observer_feed.proofs.feed.Feed.forget.Goals as goal

pub invariant_of-self : goal.invariant_of-self
invariant_of-self g c =
    let count = length c.self.inside.items.items in
    subst (ArePlaces count) (sym c.retain.ensures)
    (places_without count c.args.session c.self.inside.viewers c.self.invariant)
