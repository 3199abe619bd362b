use Rattle.std.proofs.Common.{length, ◌-◌}
use Rattle.lobby_state.proofs.broadcast.+tell_from.Given as goal

abbrev pub decreases-tell_from : goal.decreases-tell_from
decreases-tell_from g l = length l.members.now - l.place
