use Rattle.link_core.proofs.Owning.{faults_are_counted, is_greeted, keeps_its_signs}
use Rattle.link_core.proofs.laws.served_links_are_their_own.Goals as goal

pub returns-clause-counted : goal.returns-clause-counted
returns-clause-counted c = faults_are_counted

pub returns-clause-signs : goal.returns-clause-signs
returns-clause-signs c = keeps_its_signs

pub returns-clause-greeted : goal.returns-clause-greeted
returns-clause-greeted c = is_greeted
