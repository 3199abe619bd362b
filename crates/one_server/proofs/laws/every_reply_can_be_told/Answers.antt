use Rattle.one_server.proofs.Replies.{each_reply}
use Rattle.one_server.proofs.laws.every_reply_can_be_told.Goals as goal

pub returns : goal.returns
returns c = each_reply
