use Rattle.observer_feed.proofs.Meaning.{begins_and_ends}
use Rattle.observer_feed.proofs.laws.looking_on_begins_and_ends.Goals as goal

pub returns : goal.returns
returns g c = begins_and_ends c.args.feed.now c.args.session
