use Rattle.histories.specs.History.{state}
use Rattle.histories.proofs.Histories.{stays_whole}
use Rattle.one_server.specs.declared.part.Part.TheVariants.{Desk as ADesk}
use Rattle.one_server.specs.House.{house}
use Rattle.one_server.specs.WholeProof.{formed_is, place_is}
use Rattle.one_server.specs.LawfulProof.{house_lawful}
use Rattle.one_server.specs.Whole.{opened_server}
use Rattle.one_server.proofs.Opens.{IsOpening-empty}
use Rattle.one_server.proofs.Serving.{whole_opening}
use Rattle.one_server.proofs.laws.every_state_agrees.Goals as goal

pub returns-clause-empty : goal.returns-clause-empty
returns-clause-empty c = IsOpening-empty

pub returns-clause-opens : goal.returns-clause-opens
unfolding opened_server
returns-clause-opens c = whole_opening

pub returns-clause-whole : goal.returns-clause-whole
returns-clause-whole c = λ xs es w l. stays_whole house house_lawful xs es w l

pub returns-clause-desks : goal.returns-clause-desks
returns-clause-desks c = λ xs es w l lobby number desk e d.
    (place_is (state house xs es) lobby (stays_whole house house_lawful xs es w l) e number (ADesk desk) d).1.listed

pub returns-clause-members : goal.returns-clause-members
returns-clause-members c = λ xs es w l lobby e.
    (formed_is (state house xs es) lobby (stays_whole house house_lawful xs es w l) e).places
