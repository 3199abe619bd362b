use Rattle.std.proofs.Common.{Some, ap, sym, ◌∙◌}
use Rattle.one_server.specs.Acts.{second_part}
use Rattle.one_server.proofs.Lending.{lends_second}
use Rattle.hall_core.proofs.hall_rules.HallRulesSteps.together.Goals as goal

pub together-requires-clause-both : goal.together-requires-clause-both
together-requires-clause-both c =
    let lent = c.requires.both in
    let act = c.args.act.now.act in
    let one = c.deref_mut.ensures.value ∙ c.one.view_is in
    let two = c.deref_mut-2.ensures.value ∙ c.two.view_is in
    lends_second lent.0 c.args.session act c.deref_mut.result.now c.deref_mut-2.result.now lent.1 lent.2
    c.requires.fits.act (lent.3 ∙ ap Some (sym one))
    (ap (λ p. second_part p c.args.session act) one ∙ lent.4) (lent.5 ∙ ap Some (sym two))
