use Rattle.serve_core.proofs.StewardLaws.{makes_each_turn, makes_stewards_acts, makes_turns}
use Rattle.serve_core.proofs.laws.the_steward_makes_each_turn.Goals as goal

pub returns-clause-acts : goal.returns-clause-acts
returns-clause-acts c = makes_stewards_acts

pub returns-clause-turns : goal.returns-clause-turns
returns-clause-turns c = makes_turns

pub returns-clause-done : goal.returns-clause-done
returns-clause-done c = makes_each_turn
