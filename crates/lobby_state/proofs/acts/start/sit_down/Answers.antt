use Rattle.std.proofs.Common.{◌∙◌}
use Rattle.lobby_state.proofs.Seated.{all_seated}
use Rattle.lobby_state.proofs.acts.start.sit_down.Goals as goal

pub returns : goal.returns
returns c =
    c.change_players.ensures
    ∙ all_seated c.args.desk c.args.serial c.args.seats.now c.args.members.now c.as_slice-rows.ensures.apart
    c.requires
