use Rattle.lobby_state.proofs.RowsInUse.{are_desks_in_use}
use Rattle.lobby_state.proofs.laws.in_use_tells_the_desks.Goals as goal

pub returns : goal.returns
returns c = are_desks_in_use c.args.lobby.now
