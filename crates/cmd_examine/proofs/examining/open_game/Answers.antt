use Rattle.std.proofs.Common.{ap, sym, ◌∙◌}
use Rattle.std.specs.Option.{option_copied}
use Rattle.cmd_examine.proofs.Stored.{found_replays}
use Rattle.cmd_examine.proofs.examining.open_game.Goals as goal

pub open_exam-requires : goal.open_exam-requires
open_exam-requires c =
    found_replays c.args.lobby.now c.args.number c.in-Some.game.now c.lobbies_are_well_formed.ensures
    (sym c.stored.ensures ∙ ap option_copied c.in-Some.is)
