use Rattle.std.proofs.Common.{subst}
use Rattle.std.specs.Prelude.{IfSome}
use Rattle.std.specs.declared.option.Option.{Option}
use Rattle.histories.specs.History.{state}
use Rattle.histories.proofs.Histories.{stays_whole}
use Rattle.linked_desk.specs.Desk.{GameState}
use Rattle.linked_desk.specs.Sound.{IsSoundGame}
use Rattle.one_server.specs.declared.part.Part.TheVariants.{Desk as ADesk}
use Rattle.one_server.specs.House.{house}
use Rattle.one_server.specs.WholeProof.{formed_is}
use Rattle.one_server.specs.LawfulProof.{house_lawful}
use Rattle.one_server.proofs.laws.every_stored_game_replays.Goals as goal

pub returns-clause-running : goal.returns-clause-running
returns-clause-running c = λ xs es w l number desk game e g runs.
    let whole = stays_whole house house_lawful xs es w l in
    (subst (λ (o : Option GameState). IfSome o IsSoundGame) g (whole.places number (ADesk desk) e).1.sound).going runs

pub returns-clause-stored : goal.returns-clause-stored
returns-clause-stored c = λ xs es w l lobby e.
    (formed_is (state house xs es) lobby (stays_whole house house_lawful xs es w l) e).shelf.sound.replay

pub returns-clause-orders : goal.returns-clause-orders
returns-clause-orders c = λ xs es w l lobby e.
    (formed_is (state house xs es) lobby (stays_whole house house_lawful xs es w l) e).shelf.sound.orders
