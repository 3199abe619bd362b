use Rattle.std.proofs.Common.{refl}
use Rattle.replay_core.specs.Draws.{drawn, drawn_on}
use Rattle.replay_core.proofs.draws.draws_begin.Goals as goal

pub returns : goal.returns
unfolding drawn drawn_on
returns c = record { first = refl; second = refl; given = refl }
