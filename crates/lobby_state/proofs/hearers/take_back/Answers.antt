use Rattle.std.proofs.Common.{sym, ap, ◌∙◌}
use Rattle.channel_feed.specs.Waiting.{without_last}
use Rattle.lobby_state.specs.Hearers.{less_one_line}
use Rattle.lobby_state.specs.Lobby.{is_session}
use Rattle.lobby_state.proofs.Lent.{change_first-missing, changed_there}
use Rattle.lobby_state.proofs.hearers.take_back.Goals as goal

pub returns-in-Some : goal.returns-in-Some
returns-in-Some c =
    changed_there (is_session c.args.session) less_one_line _ c.args.members.now c.in-Some.place c.in-Some.ensures
    (λ m at.
    ap (λ lines. record m { waiting = lines })
    (c.take_back.ensures ∙ ap without_last (c.waiting_mut.ensures.value m at)))

pub returns-in_default : goal.returns-in_default
returns-in_default c =
    sym (change_first-missing (is_session c.args.session) less_one_line c.args.members.now (sym c.in_default.ensures))
