use Rattle.lobby_state.proofs.Words.{IsWording-declines}
use Rattle.lobby_state.proofs.roster.Roster.decline.Goals as goal

pub say_to-requires-clause-wording : goal.say_to-requires-clause-wording
say_to-requires-clause-wording c = IsWording-declines
