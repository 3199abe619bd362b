use Rattle.std.proofs.Common.{◌≡◌, Some, sym, subst}
use Rattle.std.proofs.lemmas.Result.{IfErr-at_err}
use Rattle.turn_chain.specs.Lent.{AreBoth}
use Rattle.turn_chain.proofs.Ending.{on_ok, said_of, lent_both, out_both, named_again, named_first, named_second, idle_both, same_both, ran_both}
use Rattle.turn_chain.proofs.last.together.Goals as goal

pub together-made-requires-clause-both : goal.together-made-requires-clause-both
together-made-requires-clause-both g c =
    let r = c.requires in
    subst (λ n. AreBoth g.S.Served.core n c.args.act.now c.args.one.value c.args.two.value) (sym c.number.ensures)
    (lent_both g.S.Served.lawful r.fits r.ready r.first r.second)

pub commit-requires-clause-out : goal.commit-requires-clause-out
commit-requires-clause-out g c κs within =
    let r = c.requires in (
      c.args.act.now,
      c.args.one.value,
      Some c.args.two.value,
      out_both g.S.Served.lawful r.fits r.ready r.first r.second,
    )

pub give-requires-clause-named : goal.give-requires-clause-named
give-requires-clause-named g c κs within =
    let r = c.requires in
    named_first g.S.Served.lawful r.fits r.ready r.first r.second c.commit.ensures.done
    (said_of (λ n. g.S.Served.core.one c.args.one.value (Some c.args.two.value) n c.args.act.now) c.in-Ok.is
    c.number.ensures c.together-made.ensures.one)

pub give-requires-in-Ok-clause-named : goal.give-requires-in-Ok-clause-named
give-requires-in-Ok-clause-named g c κs within =
    let r = c.requires in
    named_second g.S.Served.lawful r.fits r.ready r.first r.second c.commit.ensures.done c.give.ensures.given
    (said_of (λ n. g.S.Served.core.two c.args.one.value c.args.two.value n c.args.act.now) c.in-Ok.is
    c.number.ensures c.together-made.ensures.two)

pub give-requires-in-Err-2-clause-named : goal.give-requires-in-Err-2-clause-named
give-requires-in-Err-2-clause-named g c κs within =
    let r = c.requires in
    named_again g.S.Served.lawful r.fits r.ready r.first r.second c.give-in-Err.ensures.given
    (IfErr-at_err (λ e. c.together-made.new.two ≡ c.args.two.value) c.in-Err.is c.together-made.ensures.err_two)

pub returns-in-Ok-clause-idle : goal.returns-in-Ok-clause-idle
returns-in-Ok-clause-idle g c =
    let r = c.requires in
    idle_both g.S.Served.lawful r.fits r.ready r.first r.second c.commit.ensures.done c.give.ensures.given
    c.give-in-Ok.ensures.given

pub returns-in-Ok-clause-same : goal.returns-in-Ok-clause-same
returns-in-Ok-clause-same g c =
    let r = c.requires in
    same_both g.S.Served.lawful r.fits r.ready r.first r.second c.commit.ensures.done c.give.ensures.given
    c.give-in-Ok.ensures.given

pub returns-in-Ok-clause-ok : goal.returns-in-Ok-clause-ok
returns-in-Ok-clause-ok g c =
    let r = c.requires in
    on_ok c.together-made.result
    (ran_both g.S.Served.lawful r.fits r.ready r.first r.second c.commit.ensures.done c.give.ensures.given
    c.give-in-Ok.ensures.given
    (said_of (λ n. g.S.Served.core.answer c.args.one.value (Some c.args.two.value) n c.args.act.now) c.in-Ok.is
    c.number.ensures c.together-made.ensures.reply))
