use Rattle.std.proofs.Common.{subst}
use Rattle.std.specs.Prelude.{IfSome}
use Rattle.std.specs.declared.option.Option.{Option}
use Rattle.histories.proofs.Histories.{stays_whole}
use Rattle.linked_desk.specs.Desk.{GameState}
use Rattle.linked_desk.specs.Sound.{IsSoundGame}
use Rattle.one_server.specs.declared.part.Part.TheVariants.{Desk as ADesk}
use Rattle.one_server.specs.House.{house}
use Rattle.one_server.specs.LawfulProof.{house_lawful}
use Rattle.one_server.proofs.laws.every_end_names_its_winner.Goals as goal

pub returns : goal.returns
returns c = λ xs es w l number desk game e g.
    let whole = stays_whole house house_lawful xs es w l in
    (subst (λ (o : Option GameState). IfSome o IsSoundGame) g (whole.places number (ADesk desk) e).1.sound).winners
