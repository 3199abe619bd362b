use Rattle.std.proofs.Common.{sym, ap, ◌∙◌}
use Rattle.channel_feed.specs.Waiting.{with_line as with_one_more}
use Rattle.lobby_state.specs.Lobby.{is_named}
use Rattle.lobby_state.specs.Match.{member_with_line}
use Rattle.lobby_state.proofs.Lent.{change_first-missing, changed_there, kept_here}
use Rattle.lobby_state.proofs.member.add_line.Goals as goal
use Rattle.tables.proofs.Firsts.{on_err}

pub returns-in_default-clause-ok : goal.returns-in_default-clause-ok
returns-in_default-clause-ok c =
    sym
    (change_first-missing (is_named c.args.to) (member_with_line c.args.line) c.args.members.now
    (sym c.in_default.ensures))

pub returns-clause-ok : goal.returns-clause-ok
returns-clause-ok c =
    changed_there (is_named c.args.to) (member_with_line c.args.line) _ c.args.members.now c.in-Some.place
    c.in-Some.ensures
    (λ m at.
    ap (λ lines. record m { waiting = lines })
    (c.in_ok-push.ensures.ok ∙ ap (with_one_more c.args.line) (c.waiting_mut.ensures.value m at)))

pub returns-in_err-push-clause-err : goal.returns-in_err-push-clause-err
returns-in_err-push-clause-err c =
    on_err c.from_residual.result
    (kept_here (is_named c.args.to) _ c.args.members.now c.in-Some.place c.in-Some.ensures
    (λ m at. ap (λ lines. record m { waiting = lines }) (c.in_err-push.ensures.err ∙ c.waiting_mut.ensures.value m at)))
