use Rattle.std.proofs.Common.{◌∙◌}
use Rattle.command_words.proofs.TermParts.{variant_named, variant_unnamed}
use Rattle.command_words.proofs.terms.variant_of.Goals as goal

pub returns-in_default : goal.returns-in_default
returns-in_default c = variant_unnamed c.args.word.now c.in_default.ensures.none

pub returns : goal.returns
returns c = c.in_one_word.ensures ∙ variant_named c.args.word.now c.in-Some.variant c.in-Some.ensures.named
