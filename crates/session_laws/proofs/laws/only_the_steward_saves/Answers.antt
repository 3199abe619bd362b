use Rattle.session_laws.proofs.OfHistories.{only_the_steward_saves}
use Rattle.session_laws.proofs.OfLinks.{links_never_save}
use Rattle.session_laws.proofs.laws.only_the_steward_saves.Goals as goal

pub returns-clause-links : goal.returns-clause-links
returns-clause-links c = links_never_save

pub returns-clause-others : goal.returns-clause-others
returns-clause-others c = only_the_steward_saves
