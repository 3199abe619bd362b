use Rattle.lobby_state.proofs.SettledOffers.{settle_offers}
use Rattle.lobby_state.proofs.laws.starts_settle_offers.Goals as goal

pub returns : goal.returns
returns c = settle_offers c.args.lobby.now
