use Rattle.std.proofs.Common.{sym, ap, ◌∙◌}
use Rattle.channel_feed.specs.Waiting.{with_line as with_one_more}
use Rattle.lobby_state.specs.Lobby.{is_session}
use Rattle.lobby_state.specs.Match.{member_with_line}
use Rattle.lobby_state.proofs.Lent.{change_first-missing, changed_there, kept_here}
use Rattle.lobby_state.proofs.OneHears.{one_hears}
use Rattle.lobby_state.proofs.acts.partner.ask_and_tell.Goals as goal
use Rattle.tables.proofs.Firsts.{on_err}

pub returns-in_default-clause-told : goal.returns-in_default-clause-told
returns-in_default-clause-told c =
    sym
    (change_first-missing (is_session c.args.to) (member_with_line c.args.line) c.args.members.now
    (sym c.in_default.ensures))
    ∙ one_hears c.args.to c.args.line c.args.members.now c.as_slice-rows.ensures.apart

pub returns-clause-told : goal.returns-clause-told
returns-clause-told c =
    changed_there (is_session c.args.to) (member_with_line c.args.line) _ c.args.members.now c.in-Some.place
    c.in-Some.ensures
    (λ m at.
    ap (λ lines. record m { waiting = lines })
    (c.in_ok-ask_and_wait.ensures.told ∙ ap (with_one_more c.args.line) (c.waiting_mut.ensures.value m at)))
    ∙ one_hears c.args.to c.args.line c.args.members.now c.as_slice-rows.ensures.apart

pub returns-in_err-ask_and_wait-clause-untold : goal.returns-in_err-ask_and_wait-clause-untold
returns-in_err-ask_and_wait-clause-untold c =
    on_err c.from_residual-in_err-ask_and_wait.result
    (kept_here (is_session c.args.to) _ c.args.members.now c.in-Some.place c.in-Some.ensures
    (λ m at.
    ap (λ lines. record m { waiting = lines })
    (c.in_err-ask_and_wait.ensures.untold ∙ c.waiting_mut.ensures.value m at)))
