use Rattle.std.proofs.Common.{length}
use Rattle.lobby_state.proofs.hearers.+tell_by_rows.Given as goal

abbrev pub decreases-tell_by_rows : goal.decreases-tell_by_rows
decreases-tell_by_rows l = length l.rows.now
