use Rattle.std.proofs.Common.{◌∙◌}
use Rattle.variant_rules.proofs.SightLemmas.{held-placed}
use Rattle.variant_rules.proofs.sights.is_man_of.Goals as goal

pub returns : goal.returns
returns c = c.is_held_as.ensures ∙ held-placed c.args.c c.args.k c.args.man
