use Rattle.channel_feed.proofs.Meaning.{names_come_and_go}
use Rattle.channel_feed.proofs.laws.names_come_and_go.Goals as goal

pub returns : goal.returns
returns c = names_come_and_go c.args.names.now c.args.key
