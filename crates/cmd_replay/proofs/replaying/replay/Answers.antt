use Rattle.cmd_replay.proofs.ReplayEnds.{ReplayEnds-handled, ReplayEnds-none}
use Rattle.cmd_replay.proofs.replaying.replay.Goals as goal

pub returns-clause-ends : goal.returns-clause-ends
returns-clause-ends g c = ReplayEnds-handled _ _ _ _ c.answer_lines.result c.answer_lines.ensures.ends

pub returns-in_default-clause-ends : goal.returns-in_default-clause-ends
returns-in_default-clause-ends g c = ReplayEnds-none _ _
