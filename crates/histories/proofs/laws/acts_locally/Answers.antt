use Rattle.histories.proofs.Steps.{keeps_length, leaves_others, changes_locally}
use Rattle.histories.proofs.laws.acts_locally.Goals as goal

pub returns-clause-keeps_length : goal.returns-clause-keeps_length
returns-clause-keeps_length g c = keeps_length g.S.Served.core

pub returns-clause-leaves_others : goal.returns-clause-leaves_others
returns-clause-leaves_others g c = leaves_others g.S.Served.core

pub returns-clause-changes_locally : goal.returns-clause-changes_locally
returns-clause-changes_locally g c = changes_locally g.S.Served.core
