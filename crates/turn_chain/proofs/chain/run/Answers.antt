use Rattle.std.proofs.Common.{sym, ap, ◌∙◌}
use Rattle.turn_chain.proofs.Going.{since_first, since_second, second_free, ok_since, err_since}
use Rattle.turn_chain.proofs.chain.run.Goals as goal

pub returns-in_default-clause-ok : goal.returns-in_default-clause-ok
returns-in_default-clause-ok g c =
    let once =
    since_first g.S.Served.core c.args.pass.now.view c.begin.new.pass.view c.take-value.new.pass.view c.args.act.now
    c.first_part-first.result c.take-value.result c.take-value.new.pass.view.busy c.begin.ensures.begun
    c.begin.ensures.seen c.take-value.ensures.taken c.take-value.ensures.seen in
    ok_since g.S.Served.core c.args.pass.now.view c.take-value.new.pass.view c.alone.new.pass.view c.args.act.now once
    c.alone.result c.alone.new.reply c.alone.ensures.ok

pub returns-in_default-clause-err : goal.returns-in_default-clause-err
returns-in_default-clause-err g c =
    let once =
    since_first g.S.Served.core c.args.pass.now.view c.begin.new.pass.view c.take-value.new.pass.view c.args.act.now
    c.first_part-first.result c.take-value.result c.take-value.new.pass.view.busy c.begin.ensures.begun
    c.begin.ensures.seen c.take-value.ensures.taken c.take-value.ensures.seen in
    err_since g.S.Served.core c.args.pass.now.view c.take-value.new.pass.view c.alone.new.pass.view c.args.act.now once
    c.alone.result c.alone.ensures.err

pub take-value-requires-2-clause-not_held : goal.take-value-requires-2-clause-not_held
take-value-requires-2-clause-not_held g c κs within =
    let b = c.begin.ensures in
    let t = c.take-value.ensures in
    let core = g.S.Served.core in
    let a = c.args.act.now in
    let p = c.take-value.result in
    second_free core g.S.Served.lawful c.args.pass.now.view c.begin.new.pass.view c.take-value.new.pass.view a
    c.first_part-first.result p c.in-Some.second c.take-value.new.pass.view.busy c.requires.fits c.requires.idle b.begun
    t.taken t.seen t.value c.first_part-first.ensures
    (ap (λ n. core.second p n a) (sym c.number.ensures) ∙ (sym c.second_part-second.ensures ∙ c.in-Some.is))

pub returns-clause-ok : goal.returns-clause-ok
returns-clause-ok g c =
    let twice =
    since_second g.S.Served.core c.args.pass.now.view c.begin.new.pass.view c.take-value.new.pass.view c.args.act.now
    c.first_part-first.result c.take-value.result c.take-value.new.pass.view.busy c.begin.ensures.begun
    c.begin.ensures.seen c.take-value.ensures.taken c.take-value.ensures.seen c.take-value-2.new.pass.view
    c.in-Some.second c.take-value-2.result c.take-value-2.new.pass.view.busy c.take-value-2.ensures.taken
    c.take-value-2.ensures.seen in
    ok_since g.S.Served.core c.args.pass.now.view c.take-value-2.new.pass.view c.together.new.pass.view c.args.act.now
    twice c.together.result c.together.new.reply c.together.ensures.ok

pub returns-clause-err : goal.returns-clause-err
returns-clause-err g c =
    let twice =
    since_second g.S.Served.core c.args.pass.now.view c.begin.new.pass.view c.take-value.new.pass.view c.args.act.now
    c.first_part-first.result c.take-value.result c.take-value.new.pass.view.busy c.begin.ensures.begun
    c.begin.ensures.seen c.take-value.ensures.taken c.take-value.ensures.seen c.take-value-2.new.pass.view
    c.in-Some.second c.take-value-2.result c.take-value-2.new.pass.view.busy c.take-value-2.ensures.taken
    c.take-value-2.ensures.seen in
    err_since g.S.Served.core c.args.pass.now.view c.take-value-2.new.pass.view c.together.new.pass.view c.args.act.now
    twice c.together.result c.together.ensures.err
