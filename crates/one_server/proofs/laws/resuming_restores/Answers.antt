use Rattle.histories.specs.History.{state}
use Rattle.histories.proofs.Histories.{stays_whole}
use Rattle.one_server.specs.House.{house}
use Rattle.one_server.specs.LawfulProof.{house_lawful}
use Rattle.one_server.proofs.Resumed.{resumes_as_left}
use Rattle.one_server.proofs.laws.resuming_restores.Goals as goal

pub returns : goal.returns
returns c = λ xs es w l. resumes_as_left (state house xs es) (stays_whole house house_lawful xs es w l)
