use Rattle.histories.proofs.Histories.{stays_whole}
use Rattle.linked_desk.proofs.WholeSets.{whole_at}
use Rattle.one_server.specs.declared.part.Part.TheVariants.{Desk as ADesk}
use Rattle.one_server.specs.House.{house}
use Rattle.one_server.specs.LawfulProof.{house_lawful}
use Rattle.one_server.proofs.laws.every_game_keeps_its_men.Goals as goal

pub returns : goal.returns
returns c = λ xs es w l number desk e.
    let whole = stays_whole house house_lawful xs es w l in
    whole_at desk (whole.places number (ADesk desk) e).1.sound
