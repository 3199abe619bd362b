use Rattle.std.proofs.Common.{List, sym, ap, ◌∙◌}
use Rattle.fics_words.specs.declared.player.Player.{Player}
use Rattle.tables.specs.Rows.{change_first}
use Rattle.lobby_state.specs.Lobby.{is_session}
use Rattle.lobby_state.specs.Players.{change_players}
use Rattle.lobby_state.proofs.Seated.{of_four, of_two}
use Rattle.lobby_state.proofs.members.change_players.Goals as goal

pub returns-in_default : goal.returns-in_default
returns-in_default g c =
    let seats = c.args.seats.now in
    let change = g.C.Change.changed c.args.change.now in
    c.change-2.ensures
    ∙ ap (change_first (is_session seats.first.black.session) change) c.change.ensures
    ∙ ap (λ (players : List Player). change_players change players c.args.members.now)
    (sym (of_two seats c.in_default.is))

pub returns : goal.returns
returns g c =
    let seats = c.args.seats.now in
    let second = c.in-Some.second in
    let change = g.C.Change.changed c.args.change.now in
    c.change-4.ensures
    ∙ ap (change_first (is_session second.black.session) change) (c.change-3.ensures
    ∙ ap (change_first (is_session second.white.session) change) (c.change-2.ensures
    ∙ ap (change_first (is_session seats.first.black.session) change) c.change.ensures))
    ∙ ap (λ (players : List Player). change_players change players c.args.members.now)
    (sym (of_four seats second c.in-Some.is))
