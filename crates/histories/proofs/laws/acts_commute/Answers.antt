use Rattle.histories.proofs.Steps.{replies_commute, states_commute}
use Rattle.histories.proofs.laws.acts_commute.Goals as goal

pub returns-clause-replies : goal.returns-clause-replies
returns-clause-replies g c = replies_commute g.S.Served.core

pub returns-clause-states : goal.returns-clause-states
returns-clause-states g c = states_commute g.S.Served.core
