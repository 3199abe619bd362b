use Rattle.cmd_bot.proofs.FirstBad.{IsFirstBad-told}
use Rattle.cmd_bot.proofs.GamesGiven.{Give-given, Give-good, Give-state}
use Rattle.cmd_bot.proofs.laws.inputs.Goals as goal

pub returns-clause-given : goal.returns-clause-given
returns-clause-given c = Give-given

pub returns-clause-good : goal.returns-clause-good
returns-clause-good c = Give-good

pub returns-clause-state : goal.returns-clause-state
returns-clause-state c = Give-state

pub returns-clause-first : goal.returns-clause-first
returns-clause-first c = IsFirstBad-told
