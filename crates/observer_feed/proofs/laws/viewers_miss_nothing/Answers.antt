use Rattle.std.proofs.Common.{subst}
use Rattle.observer_feed.specs.Feed.{FeedState}
use Rattle.observer_feed.specs.Laws.{MissesNothing}
use Rattle.observer_feed.proofs.Meaning.{misses_nothing}
use Rattle.observer_feed.proofs.laws.viewers_miss_nothing.Goals as goal

pub returns : goal.returns
returns g c =
    let feed : FeedState g.row.T.Denot =
    record { items = c.feed.inside.items.items; viewers = c.feed.inside.viewers; room = c.feed.inside.items.room } in
    subst (λ (f : FeedState g.row.T.Denot). MissesNothing f c.args.session) c.feed.view_is
    (misses_nothing feed c.args.session c.feed.invariant)
