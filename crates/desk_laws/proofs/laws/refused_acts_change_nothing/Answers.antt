use Rattle.desk_laws.proofs.Refusing.{keeps_both, keeps_the_desk, keeps_the_lobby}
use Rattle.desk_laws.proofs.laws.refused_acts_change_nothing.Goals as goal

pub returns-clause-desk : goal.returns-clause-desk
returns-clause-desk c = keeps_the_desk

pub returns-clause-lobby : goal.returns-clause-lobby
returns-clause-lobby c = keeps_the_lobby

pub returns-clause-both : goal.returns-clause-both
returns-clause-both c = keeps_both
