use Rattle.std.proofs.Common.{Option, None, Some, [], refl, subst, ◌∙◌}
use Rattle.std.specs.Prelude.{All}
use Rattle.fics_words.specs.Seats.{seat_list}
use Rattle.lobby_state.specs.declared.game.ListedGame.{ListedGame}
use Rattle.lobby_state.specs.Clear.{PlaysThere}
use Rattle.lobby_state.proofs.GettingUp.{all_up}
use Rattle.lobby_state.proofs.acts.clear.get_up.Goals as goal

pub returns-in_default : goal.returns-in_default
returns-in_default c =
    let members = c.args.members.now in
    let there =
    subst (λ (game : Option ListedGame). All (PlaysThere c.args.desk game) members) c.in_default.is c.requires in
    all_up c.args.desk None [] members (λ _. refl) c.as_slice-rows.ensures.apart there

pub returns : goal.returns
returns c =
    let members = c.args.members.now in
    let game = c.in-Some.game in
    let there =
    subst (λ (game : Option ListedGame). All (PlaysThere c.args.desk game) members) c.in-Some.is c.requires in
    c.change_players.ensures
    ∙ all_up c.args.desk (Some game) (seat_list game.seats) members (λ _. refl) c.as_slice-rows.ensures.apart there
