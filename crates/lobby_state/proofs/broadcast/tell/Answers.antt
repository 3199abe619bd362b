use Rattle.std.proofs.Common.{ℕ, List, unwrap_or, sym, ap, ◌∙◌}
use Rattle.channel_feed.specs.Waiting.{with_line as with_one_more}
use Rattle.lobby_state.specs.Broadcast.{hears}
use Rattle.lobby_state.proofs.Broadcasting.{not_told, was_told}
use Rattle.lobby_state.proofs.Lent.{kept_there, length-change_at}
use Rattle.lobby_state.proofs.broadcast.tell.Goals as goal
use Rattle.tables.proofs.Firsts.{on_err}

pub returns-then-not-hears-clause-told : goal.returns-then-not-hears-clause-told
returns-then-not-hears-clause-told g c m at =
    let p = g.P.Predicate.passes c.args.test.now in
    sym c.if-not-hears.true ∙ c.hears.ensures ∙ ap (λ o. hears p (unwrap_or o m)) (sym c.at.ensures ∙ at)

pub returns-then-not-hears-clause-ok : goal.returns-then-not-hears-clause-ok
returns-then-not-hears-clause-ok g c =
    not_told (g.P.Predicate.passes c.args.test.now) c.args.line.now c.args.members.now c.args.place c.at.result.now
    c.hears.result
    c.at.ensures c.hears.ensures c.if-not-hears.true

pub returns-in_err-push-clause-err : goal.returns-in_err-push-clause-err
returns-in_err-push-clause-err g c =
    on_err c.from_residual-in_err-push.result
    (kept_there _ c.args.members.now c.args.place c.requires
    (λ m at. ap (λ lines. record m { waiting = lines }) (c.in_err-push.ensures.err ∙ c.waiting_mut.ensures.value m at)))

pub returns-clause-told : goal.returns-clause-told
returns-clause-told g c m at =
    let p = g.P.Predicate.passes c.args.test.now in
    sym c.if-not-hears.false ∙ c.hears.ensures ∙ ap (λ o. hears p (unwrap_or o m)) (sym c.at.ensures ∙ at)

pub returns-clause-ok : goal.returns-clause-ok
returns-clause-ok g c =
    was_told (g.P.Predicate.passes c.args.test.now) c.args.line.now c.args.members.now c.args.place c.at.result.now
    c.hears.result
    c.waiting_mut.result.now c.push.new.self c.at.ensures c.hears.ensures c.if-not-hears.false
    c.waiting_mut.ensures.value
    (c.in_ok-push.ensures.ok ∙ ap (λ (l : List ℕ). with_one_more l c.waiting_mut.result.now) c.in_ok-copy.ensures)

pub returns-in_err-push-clause-many : goal.returns-in_err-push-clause-many
returns-in_err-push-clause-many g c = length-change_at _ c.args.members.now c.args.place

pub returns-clause-many : goal.returns-clause-many
returns-clause-many g c = length-change_at _ c.args.members.now c.args.place
