use Rattle.std.proofs.Common.{sym, ap, ◌∙◌}
use Rattle.lobby_state.specs.Lobby.{is_session, lines_in}
use Rattle.lobby_state.specs.Fetch.{member_emptied}
use Rattle.lobby_state.proofs.Lent.{at_place, change_first-missing, changed_there}
use Rattle.lobby_state.proofs.member.take_lines.Goals as goal
use Rattle.tables.proofs.Placed.{find-found, find-missing, position-within}

pub returns-in_default-clause-lines : goal.returns-in_default-clause-lines
returns-in_default-clause-lines c =
    c.new.ensures
    ∙ ap lines_in (sym (find-missing (is_session c.args.session) c.args.members.now (sym c.in_default.ensures)))

pub returns-in_default-clause-emptied : goal.returns-in_default-clause-emptied
returns-in_default-clause-emptied c =
    sym (change_first-missing (is_session c.args.session) member_emptied c.args.members.now (sym c.in_default.ensures))

pub returns-clause-lines : goal.returns-clause-lines
returns-clause-lines c =
    let p = is_session c.args.session in
    let here = sym c.in-Some.ensures in
    let found =
    at_place c.args.members.now c.in-Some.place (position-within p c.args.members.now c.in-Some.place here) in
    c.take_all.ensures.taken ∙ c.waiting_mut.ensures.value found.0 found.1
    ∙ ap lines_in (sym (find-found p c.args.members.now c.in-Some.place here ∙ found.1))

pub returns-clause-emptied : goal.returns-clause-emptied
returns-clause-emptied c =
    changed_there (is_session c.args.session) member_emptied _ c.args.members.now c.in-Some.place c.in-Some.ensures
    (λ m at. ap (λ lines. record m { waiting = lines }) c.take_all.ensures.emptied)
