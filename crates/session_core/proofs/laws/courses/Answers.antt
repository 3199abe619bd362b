use Rattle.session_core.proofs.Following.{follows_act, follows_end, follows_memory, follows_text}
use Rattle.session_core.proofs.laws.courses.Goals as goal

pub returns-clause-acts : goal.returns-clause-acts
returns-clause-acts c = follows_act

pub returns-clause-end : goal.returns-clause-end
returns-clause-end c = follows_end

pub returns-clause-text : goal.returns-clause-text
returns-clause-text c = follows_text

pub returns-clause-memory : goal.returns-clause-memory
returns-clause-memory c = follows_memory
