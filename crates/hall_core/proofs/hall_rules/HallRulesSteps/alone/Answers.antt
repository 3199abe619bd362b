use Rattle.std.proofs.Common.{Some, ap, sym, ◌∙◌}
use Rattle.one_server.proofs.Lending.{lends_first}
use Rattle.hall_core.proofs.hall_rules.HallRulesSteps.alone.Goals as goal

pub alone-requires-clause-first : goal.alone-requires-clause-first
alone-requires-clause-first c =
    let lent = c.requires.first in
    let one = c.deref_mut.ensures.value ∙ c.one.view_is in
    lends_first lent.0 c.args.act.now.act c.deref_mut.result.now lent.1 c.requires.fits.act (lent.2 ∙ ap Some (sym one))
