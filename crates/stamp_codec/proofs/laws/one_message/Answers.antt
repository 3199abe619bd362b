use Rattle.stamp_codec.proofs.Openings.{one_spelled, opened_iff}
use Rattle.stamp_codec.proofs.laws.one_message.Goals as goal

pub returns-clause-one : goal.returns-clause-one
returns-clause-one c = one_spelled

pub returns-clause-opened : goal.returns-clause-opened
returns-clause-opened c = opened_iff
