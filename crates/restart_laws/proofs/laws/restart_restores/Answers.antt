use Rattle.restart_laws.proofs.Restart.{opens_behind, restart_restores}
use Rattle.restart_laws.proofs.laws.restart_restores.Goals as goal

pub returns-clause-restores : goal.returns-clause-restores
returns-clause-restores c = restart_restores

pub returns-clause-behind : goal.returns-clause-behind
returns-clause-behind c = opens_behind
