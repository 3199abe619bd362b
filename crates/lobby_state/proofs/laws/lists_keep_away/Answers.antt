use Rattle.lobby_state.proofs.KeepingAway.{keep_away}
use Rattle.lobby_state.proofs.laws.lists_keep_away.Goals as goal

pub returns : goal.returns
returns c = keep_away c.args.lobby.now c.args.session c.args.to c.args.number
