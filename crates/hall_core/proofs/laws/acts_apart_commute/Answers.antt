use Rattle.hall_core.proofs.Commuting.{apart_commute, desks_commute, lobby_commutes, pair_commutes, nobody_can_tell}
use Rattle.hall_core.proofs.laws.acts_apart_commute.Goals as goal

pub returns-clause-apart : goal.returns-clause-apart
returns-clause-apart c = apart_commute

pub returns-clause-desks : goal.returns-clause-desks
returns-clause-desks c = desks_commute

pub returns-clause-lobby : goal.returns-clause-lobby
returns-clause-lobby c = lobby_commutes

pub returns-clause-pairs : goal.returns-clause-pairs
returns-clause-pairs c = pair_commutes

pub returns-clause-order : goal.returns-clause-order
returns-clause-order c = nobody_can_tell
