use Rattle.std.proofs.Common.{length}
use Rattle.simul_control.proofs.Circle.{round}
use Rattle.simul_control.proofs.laws.turns_come_round.Goals as goal

pub returns : goal.returns
returns c = round (length c.args.places.now.rows) c.args.places.now.at c.len-count.ensures.present
