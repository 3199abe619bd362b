use Rattle.serve_core.proofs.Ending.{ends_unopened}
use Rattle.serve_core.proofs.serving.serve_lobby.Goals as goal

pub returns-in_default-clause-ends : goal.returns-in_default-clause-ends
returns-in_default-clause-ends g c = ends_unopened _ _ _
