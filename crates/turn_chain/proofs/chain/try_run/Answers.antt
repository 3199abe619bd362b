use Rattle.std.proofs.Common.{sym, ap, ◌∙◌}
use Rattle.turn_chain.specs.Chain.{HasNotRun}
use Rattle.turn_chain.proofs.Going.{since_first, since_second, second_free, ran_since, unmade_since, on_err, same_busy, came_busy, idle_given, same_given, came_given}
use Rattle.turn_chain.proofs.chain.try_run.Goals as goal

pub returns-in_default-second-clause-ok : goal.returns-in_default-second-clause-ok
returns-in_default-second-clause-ok g c =
    let once =
    since_first g.S.Served.core c.args.pass.now.view c.begin.new.pass.view c.try_take.new.pass.view c.args.act
    c.first_part-first.result c.in-Some.value c.begin.new.pass.view.busy c.begin.ensures.begun c.begin.ensures.seen
    c.in-Some.ensures.taken c.in-Some.ensures.seen in
    ran_since g.S.Served.core c.args.pass.now.view c.try_take.new.pass.view c.alone.new.pass.view c.args.act
    c.alone.new.reply once c.in_ok-alone.ensures.ok

pub try_take-requires-2-clause-not_held : goal.try_take-requires-2-clause-not_held
try_take-requires-2-clause-not_held g c κs within =
    let core = g.S.Served.core in
    let b = c.begin.ensures in
    let t = c.in-Some.ensures in
    let u = c.begin.new.pass.view in
    let a = c.args.act in
    let p = c.in-Some.value in
    second_free core g.S.Served.lawful c.args.pass.now.view u c.try_take.new.pass.view a c.first_part-first.result p
    c.in-Some-second.second u.busy c.requires.fits c.requires.idle b.begun t.taken t.seen t.value
    c.first_part-first.ensures
    (ap (λ n. core.second p n a) (sym c.number.ensures) ∙ (sym c.second_part-second.ensures ∙ c.in-Some-second.is))

pub returns-clause-ok : goal.returns-clause-ok
returns-clause-ok g c =
    let twice =
    since_second g.S.Served.core c.args.pass.now.view c.begin.new.pass.view c.try_take.new.pass.view c.args.act
    c.first_part-first.result c.in-Some.value c.begin.new.pass.view.busy c.begin.ensures.begun c.begin.ensures.seen
    c.in-Some.ensures.taken c.in-Some.ensures.seen c.try_take-2.new.pass.view c.in-Some-second.second
    c.in-Some-try_take.value c.try_take.new.pass.view.busy c.in-Some-try_take.ensures.taken
    c.in-Some-try_take.ensures.seen in
    ran_since g.S.Served.core c.args.pass.now.view c.try_take-2.new.pass.view c.together.new.pass.view c.args.act
    c.together.new.reply twice c.in_ok-together.ensures.ok

pub returns-in_default-clause-same : goal.returns-in_default-clause-same
returns-in_default-clause-same g c =
    same_busy g.S.Served.core c.args.pass.now.view c.begin.new.pass.view c.try_take.new.pass.view c.args.act
    c.first_part-first.result c.begin.ensures.begun c.begin.ensures.seen c.in_default.ensures.busy

pub returns-in_default-clause-ok : goal.returns-in_default-clause-ok
returns-in_default-clause-ok g c =
    came_busy g.S.Served.core c.args.pass.now.view c.begin.new.pass.view c.try_take.new.pass.view c.args.act
    c.first_part-first.result c.begin.ensures.begun c.begin.ensures.seen c.in_default.ensures.busy
    c.args.reply.now c.first_part-first.ensures

pub returns-in_err-alone-clause-err : goal.returns-in_err-alone-clause-err
returns-in_err-alone-clause-err g c =
    let once =
    since_first g.S.Served.core c.args.pass.now.view c.begin.new.pass.view c.try_take.new.pass.view c.args.act
    c.first_part-first.result c.in-Some.value c.begin.new.pass.view.busy c.begin.ensures.begun c.begin.ensures.seen
    c.in-Some.ensures.taken c.in-Some.ensures.seen in
    on_err c.from_residual.result (HasNotRun g.S.Served.core c.args.pass.now.view c.alone.new.pass.view)
    (unmade_since g.S.Served.core c.args.pass.now.view c.try_take.new.pass.view c.alone.new.pass.view once
    c.in_err-alone.ensures.err)

pub returns-in_default-try_take-clause-idle : goal.returns-in_default-try_take-clause-idle
returns-in_default-try_take-clause-idle g c =
    let b = c.begin.ensures in
    let t = c.in-Some.ensures in
    idle_given g.S.Served.core c.args.pass.now.view c.begin.new.pass.view c.try_take.new.pass.view
    c.try_take-2.new.pass.view c.give.new.pass.view c.args.act c.first_part-first.result
    c.in-Some.value c.in-Some-second.second b.begun b.seen t.taken t.seen c.in_default-try_take.ensures.busy
    c.give.ensures.given c.requires.idle

pub returns-in_default-try_take-clause-same : goal.returns-in_default-try_take-clause-same
returns-in_default-try_take-clause-same g c =
    let b = c.begin.ensures in
    let t = c.in-Some.ensures in
    same_given g.S.Served.core c.args.pass.now.view c.begin.new.pass.view c.try_take.new.pass.view
    c.try_take-2.new.pass.view c.give.new.pass.view c.args.act c.first_part-first.result
    c.in-Some.value c.in-Some-second.second b.begun b.seen t.taken t.seen c.in_default-try_take.ensures.busy
    c.give.ensures.given

pub returns-in_default-try_take-clause-ok : goal.returns-in_default-try_take-clause-ok
returns-in_default-try_take-clause-ok g c =
    let core = g.S.Served.core in
    let a = c.args.act in
    let p = c.in-Some.value in
    let b = c.begin.ensures in
    let t = c.in-Some.ensures in
    came_given core c.args.pass.now.view c.begin.new.pass.view c.try_take.new.pass.view c.try_take-2.new.pass.view
    c.give.new.pass.view a c.first_part-first.result
    p c.in-Some-second.second b.begun b.seen t.taken t.seen c.in_default-try_take.ensures.busy c.give.ensures.given
    c.args.reply.now c.first_part-first.ensures t.value
    (ap (λ n. core.second p n a) (sym c.number.ensures) ∙ (sym c.second_part-second.ensures ∙ c.in-Some-second.is))

pub returns-in_err-together-clause-err : goal.returns-in_err-together-clause-err
returns-in_err-together-clause-err g c =
    let twice =
    since_second g.S.Served.core c.args.pass.now.view c.begin.new.pass.view c.try_take.new.pass.view c.args.act
    c.first_part-first.result c.in-Some.value c.begin.new.pass.view.busy c.begin.ensures.begun c.begin.ensures.seen
    c.in-Some.ensures.taken c.in-Some.ensures.seen c.try_take-2.new.pass.view c.in-Some-second.second
    c.in-Some-try_take.value c.try_take.new.pass.view.busy c.in-Some-try_take.ensures.taken
    c.in-Some-try_take.ensures.seen in
    on_err c.from_residual-in_err-together.result
    (HasNotRun g.S.Served.core c.args.pass.now.view c.together.new.pass.view)
    (unmade_since g.S.Served.core c.args.pass.now.view c.try_take-2.new.pass.view c.together.new.pass.view twice
    c.in_err-together.ensures.err)
