use Rattle.cmd_replay.specs.EveningsProof.{one_evening, evening_legal}
use Rattle.cmd_replay.specs.Evening.{parts_after, remembered}
use Rattle.cmd_replay.specs.FollowingProof.{one_leaving}
use Rattle.cmd_replay.proofs.evening_laws.one_evening.Goals as goal

pub returns-clause-same : goal.returns-clause-same
returns-clause-same c = one_evening

pub returns-clause-leaving : goal.returns-clause-leaving
returns-clause-leaving c rows moment sessions made other f g l m =
    one_leaving (remembered rows) moment sessions (parts_after rows) made other f g l m

pub returns-clause-legal : goal.returns-clause-legal
returns-clause-legal c = evening_legal
