use Rattle.std.proofs.Common.{None}
use Rattle.turn_chain.proofs.Ending.{on_ok, said_of, lent_first, out_alone, named_alone, idle_alone, same_alone, ran_alone}
use Rattle.turn_chain.proofs.last.alone.Goals as goal

pub alone-made-requires-clause-first : goal.alone-made-requires-clause-first
alone-made-requires-clause-first g c = lent_first c.requires.ready c.requires.first

pub commit-requires-clause-out : goal.commit-requires-clause-out
commit-requires-clause-out g c κs within =
    let r = c.requires in
    (c.args.act.now, c.args.one.value, None, out_alone r.ready r.first r.single)

pub give-requires-clause-named : goal.give-requires-clause-named
give-requires-clause-named g c κs within =
    let r = c.requires in
    named_alone r.ready r.first r.single c.commit.ensures.done
    (said_of (λ n. g.S.Served.core.one c.args.one.value None n c.args.act.now) c.in-Ok.is c.number.ensures
    c.alone-made.ensures.after)

pub returns-in-Ok-clause-idle : goal.returns-in-Ok-clause-idle
returns-in-Ok-clause-idle g c =
    let r = c.requires in
    idle_alone r.ready r.first r.single c.commit.ensures.done c.give.ensures.given

pub returns-in-Ok-clause-same : goal.returns-in-Ok-clause-same
returns-in-Ok-clause-same g c =
    let r = c.requires in
    same_alone r.ready r.first r.single c.commit.ensures.done c.give.ensures.given

pub returns-in-Ok-clause-ok : goal.returns-in-Ok-clause-ok
returns-in-Ok-clause-ok g c =
    let r = c.requires in
    on_ok c.alone-made.result
    (ran_alone r.ready r.first r.single c.commit.ensures.done c.give.ensures.given
    (said_of (λ n. g.S.Served.core.answer c.args.one.value None n c.args.act.now) c.in-Ok.is c.number.ensures
    c.alone-made.ensures.reply))
