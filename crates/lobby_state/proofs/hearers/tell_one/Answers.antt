use Rattle.std.proofs.Common.{not, sym, ap, ◌∙◌}
use Rattle.channel_feed.specs.Waiting.{with_line as with_one_more}
use Rattle.lobby_state.specs.Lobby.{is_session}
use Rattle.lobby_state.specs.Match.{member_with_line}
use Rattle.lobby_state.proofs.ByRows.{no_room, room_nowhere, room_there}
use Rattle.lobby_state.proofs.Lent.{changed_there, kept_here}
use Rattle.lobby_state.proofs.OneHears.{one_hears}
use Rattle.lobby_state.proofs.hearers.tell_one.Goals as goal
use Rattle.tables.proofs.Firsts.{on_err}

pub returns-in_default-clause-told : goal.returns-in_default-clause-told
returns-in_default-clause-told c = sym (room_nowhere c.args.session c.args.members.now c.in_default.ensures)

pub returns-in_default-clause-ok : goal.returns-in_default-clause-ok
returns-in_default-clause-ok c =
    sym (no_room c.args.session c.args.line.now c.args.members.now c.as_slice-all.ensures.apart
    (room_nowhere c.args.session c.args.members.now c.in_default.ensures))

pub returns-then-is_full-clause-told : goal.returns-then-is_full-clause-told
returns-then-is_full-clause-told c =
    sym (room_there c.args.session c.args.members.now c.in-Some.place c.at.result.now c.is_full.result c.in-Some.ensures
    c.at.ensures c.is_full.ensures
    ∙ ap not c.if-is_full.true)

pub returns-then-is_full-clause-ok : goal.returns-then-is_full-clause-ok
returns-then-is_full-clause-ok c =
    sym (no_room c.args.session c.args.line.now c.args.members.now c.as_slice-all.ensures.apart
    (room_there c.args.session c.args.members.now c.in-Some.place c.at.result.now c.is_full.result c.in-Some.ensures
    c.at.ensures c.is_full.ensures
    ∙ ap not c.if-is_full.true))

pub returns-in_err-push-clause-err : goal.returns-in_err-push-clause-err
returns-in_err-push-clause-err c =
    on_err c.from_residual-in_err-push.result
    (kept_here (is_session c.args.session) _ c.args.members.now c.in-Some.place c.in-Some.ensures
    (λ m at. ap (λ lines. record m { waiting = lines }) (c.in_err-push.ensures.err ∙ c.waiting_mut.ensures.value m at)))

pub returns-clause-told : goal.returns-clause-told
returns-clause-told c =
    sym (room_there c.args.session c.args.members.now c.in-Some.place c.at.result.now c.is_full.result c.in-Some.ensures
    c.at.ensures c.is_full.ensures
    ∙ ap not c.if-is_full.false)

pub returns-clause-ok : goal.returns-clause-ok
returns-clause-ok c =
    changed_there (is_session c.args.session) (member_with_line c.args.line.now) _ c.args.members.now c.in-Some.place
    c.in-Some.ensures
    (λ m at. ap (λ lines. record m { waiting = lines })
    (c.in_ok-push.ensures.ok ∙ (λ j. with_one_more (c.in_ok-copy.ensures j) (c.waiting_mut.ensures.value m at j))))
    ∙ one_hears c.args.session c.args.line.now c.args.members.now c.as_slice-all.ensures.apart
