use Rattle.lobby_state.proofs.Words.{IsWording-tells}
use Rattle.lobby_state.proofs.roster.Roster.tell.Goals as goal

pub said_line-requires-clause-wording : goal.said_line-requires-clause-wording
said_line-requires-clause-wording c = IsWording-tells
