use Rattle.lobby_state.proofs.KeepsActs.{keeps_act}
use Rattle.lobby_state.proofs.laws.acts_keep.Goals as goal

pub returns : goal.returns
returns c = (keeps_act c.args.lobby.now c.args.session c.args.act.now).kept
