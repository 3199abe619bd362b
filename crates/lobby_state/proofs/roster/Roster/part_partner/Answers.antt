use Rattle.lobby_state.proofs.Words.{IsWording-parts}
use Rattle.lobby_state.proofs.roster.Roster.part_partner.Goals as goal

pub say_to-requires-clause-wording : goal.say_to-requires-clause-wording
say_to-requires-clause-wording c = IsWording-parts
