use Rattle.lobby_shelf.proofs.Leading.{orders-lead}
use Rattle.lobby_shelf.proofs.laws.orders_lead.Goals as goal

pub returns : goal.returns
returns c = orders-lead
