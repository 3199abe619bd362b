use Rattle.cmd_demo.proofs.Going.{legal_history, one_history}
use Rattle.cmd_demo.proofs.demo_laws.one_demo.Goals as goal

pub returns-clause-same : goal.returns-clause-same
returns-clause-same c = one_history

pub returns-clause-legal : goal.returns-clause-legal
returns-clause-legal c = legal_history
