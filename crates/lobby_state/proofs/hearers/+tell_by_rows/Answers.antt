use Rattle.std.proofs.Common.{sym, ap, ◌∙◌, arith}
use Rattle.tables.specs.Rows.{change_first}
use Rattle.lobby_state.specs.Hearers.{less_one_line}
use Rattle.lobby_state.specs.Lobby.{is_session}
use Rattle.lobby_state.specs.TellChannel.{hears_channel}
use Rattle.lobby_state.proofs.ByRows.{all_heard, all_told, apart_behind, back_as_before, broadcast_none, fewer_behind, heard_none, hears_none, no_room, one}
use Rattle.lobby_state.proofs.hearers.+tell_by_rows.Goals as goal

pub returns-in_default-clause-told : goal.returns-in_default-clause-told
returns-in_default-clause-told t c =
    let o = c.args.others in
    sym (heard_none (hears_channel c.args.rows.now o.session o.channel)
    (hears_none o.session o.channel c.args.rows.now c.from_next.result.now c.from_next.ensures
    c.in_default.ensures.cases)
    c.args.members.now)

pub returns-in_default-clause-ok : goal.returns-in_default-clause-ok
returns-in_default-clause-ok t c =
    let o = c.args.others in
    sym (broadcast_none (hears_channel c.args.rows.now o.session o.channel) c.args.line.now
    (hears_none o.session o.channel c.args.rows.now c.from_next.result.now c.from_next.ensures
    c.in_default.ensures.cases)
    c.args.members.now)

pub tell_by_rows-requires : goal.tell_by_rows-requires
tell_by_rows-requires t c =
    let o = c.args.others in
    let found = sym c.from_next.ensures ∙ c.in-Some.ensures.cases.0 in (
      omega (
        arith,
        c.decreases,
        fewer_behind o.session o.channel c.args.rows.now c.in-Some.rest.now c.in-Some.row.now found,
      ),
      apart_behind o.session o.channel c.args.rows.now c.in-Some.rest.now c.in-Some.row.now c.requires found,
    )

pub returns-then-is_told-clause-told : goal.returns-then-is_told-clause-told
returns-then-is_told-clause-told t c =
    let o = c.args.others in
    let found = sym c.from_next.ensures ∙ c.in-Some.ensures.cases.0 in
    let all =
    all_heard o.session o.channel c.args.rows.now c.in-Some.rest.now c.in-Some.row.now c.requires found c.args.line.now
    c.args.members.now c.tell_one.new.members c.in_ok-is_told.ensures.ok
    c.in_ok-is_told.is_told c.in-Ok.told c.as_slice-all.ensures.apart c.in_ok-is_told.ensures.told
    c.in-Ok.ensures.told in
    omega (arith, all, ap one c.if-is_told.true)

pub returns-then-is_told-clause-few : goal.returns-then-is_told-clause-few
returns-then-is_told-clause-few t c =
    let o = c.args.others in
    omega (
      arith,
      c.in-Ok.ensures.few,
      fewer_behind o.session o.channel c.args.rows.now c.in-Some.rest.now c.in-Some.row.now
          (sym c.from_next.ensures ∙ c.in-Some.ensures.cases.0),
    )

pub returns-then-is_told-clause-ok : goal.returns-then-is_told-clause-ok
returns-then-is_told-clause-ok t c =
    let o = c.args.others in
    all_told o.session o.channel c.args.rows.now c.in-Some.rest.now c.in-Some.row.now c.requires
    (sym c.from_next.ensures ∙ c.in-Some.ensures.cases.0)
    c.args.line.now c.args.members.now c.tell_one.new.members c.in_ok-is_told.ensures.ok c.tell_by_rows.new.members
    c.in-Ok.ensures.ok

pub returns-else-is_told-clause-told : goal.returns-else-is_told-clause-told
returns-else-is_told-clause-told t c =
    let o = c.args.others in
    let found = sym c.from_next.ensures ∙ c.in-Some.ensures.cases.0 in
    let all =
    all_heard o.session o.channel c.args.rows.now c.in-Some.rest.now c.in-Some.row.now c.requires found c.args.line.now
    c.args.members.now c.tell_one.new.members c.in_ok-is_told.ensures.ok
    c.in_ok-is_told.is_told c.in-Ok.told c.as_slice-all.ensures.apart c.in_ok-is_told.ensures.told
    c.in-Ok.ensures.told in
    omega (arith, all, ap one c.if-is_told.false)

pub returns-else-is_told-clause-few : goal.returns-else-is_told-clause-few
returns-else-is_told-clause-few t c =
    let o = c.args.others in
    omega (
      arith,
      c.in-Ok.ensures.few,
      fewer_behind o.session o.channel c.args.rows.now c.in-Some.rest.now c.in-Some.row.now
          (sym c.from_next.ensures ∙ c.in-Some.ensures.cases.0),
    )

pub returns-else-is_told-clause-ok : goal.returns-else-is_told-clause-ok
returns-else-is_told-clause-ok t c =
    let o = c.args.others in
    all_told o.session o.channel c.args.rows.now c.in-Some.rest.now c.in-Some.row.now c.requires
    (sym c.from_next.ensures ∙ c.in-Some.ensures.cases.0)
    c.args.line.now c.args.members.now c.tell_one.new.members c.in_ok-is_told.ensures.ok c.tell_by_rows.new.members
    c.in-Ok.ensures.ok

pub returns-then-is_told-2-clause-err : goal.returns-then-is_told-2-clause-err
returns-then-is_told-2-clause-err t c =
    c.take_back.ensures
    ∙ ap (change_first (is_session c.in-Some.row.now.who) less_one_line)
    (c.in-Err.ensures.err ∙ c.in_ok-is_told.ensures.ok)
    ∙ back_as_before c.in-Some.row.now.who c.args.line.now c.args.members.now c.as_slice-all.ensures.apart
    (sym c.in_ok-is_told.ensures.told ∙ c.if-is_told-2.true)

pub returns-else-is_told-2-clause-err : goal.returns-else-is_told-2-clause-err
returns-else-is_told-2-clause-err t c =
    c.in-Err.ensures.err ∙ c.in_ok-is_told.ensures.ok
    ∙ no_room c.in-Some.row.now.who c.args.line.now c.args.members.now c.as_slice-all.ensures.apart
    (sym c.in_ok-is_told.ensures.told ∙ c.if-is_told-2.false)
