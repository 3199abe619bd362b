use Rattle.std.proofs.Common.{subst}
use Rattle.lobby_state.specs.declared.acts.Plan.{Plan}
use Rattle.lobby_state.specs.Planned.{IsPlanned}
use Rattle.lobby_state.proofs.KeepsResumed.{used-positive, used-stored}
use Rattle.lobby_state.proofs.roster.Roster.reserve.Goals as goal

pub saving_of_removal-requires-clause-positive : goal.saving_of_removal-requires-clause-positive
saving_of_removal-requires-clause-positive c =
    let lobby = c.args.self.now in
    let can = subst (λ (plan : Plan). IsPlanned lobby plan) c.in-Resume.is c.requires.planned in
    used-positive lobby.shelf.games c.in-Resume.number c.requires.formed.shelf.sound.numbers
    (used-stored lobby.shelf.games c.in-Resume.number can.game can.lies)
