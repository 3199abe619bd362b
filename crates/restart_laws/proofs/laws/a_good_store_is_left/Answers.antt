use Rattle.restart_laws.proofs.Restart.{leaves_good}
use Rattle.restart_laws.proofs.laws.a_good_store_is_left.Goals as goal

pub returns : goal.returns
returns c = leaves_good
