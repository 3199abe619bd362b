use Rattle.lobby_state.proofs.Words.{IsWording-offers}
use Rattle.lobby_state.proofs.acts.partner.partner_line.Goals as goal

pub said_line-requires-clause-wording : goal.said_line-requires-clause-wording
said_line-requires-clause-wording c = IsWording-offers
