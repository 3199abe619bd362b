use Rattle.channel_feed.proofs.Meaning.{leaves}
use Rattle.channel_feed.proofs.laws.leaving_is_being_out.Goals as goal

pub returns : goal.returns
returns c = leaves c.args.channels.now c.args.who c.args.channel
