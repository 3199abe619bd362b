use Rattle.std.proofs.Common.{sym, ap, ◌∙◌}
use Rattle.command_words.specs.Blanks.{words_of}
use Rattle.command_words.specs.TermReading.{agreed_terms, with_none_left}
use Rattle.command_words.proofs.TermParts.{parts_are_terms}
use Rattle.command_words.proofs.terms.read_terms.Goals as goal

pub returns-in-Some : goal.returns-in-Some
returns-in-Some c =
    sym
    (ap (with_none_left (agreed_terms c.cut_time.result.0 c.cut_variant-variant.result.0 c.cut_colour-colour.result.0))
    c.in-Some.ensures.word)
    ∙ parts_are_terms c.args.usual c.cut_time.result.0 (words_of c.args.text.now) (words_of c.cut_time.result.1.now)
    (words_of c.behind_unrated-rest.result.now)
    (words_of c.cut_variant-variant.result.1.now) (words_of c.cut_colour-colour.result.1.now)
    c.cut_variant-variant.result.0 c.cut_colour-colour.result.0
    c.cut_time.ensures c.behind_unrated-rest.ensures c.cut_variant-variant.ensures c.cut_colour-colour.ensures

pub returns-in-None : goal.returns-in-None
returns-in-None c =
    sym
    (ap (with_none_left (agreed_terms c.cut_time.result.0 c.cut_variant-variant.result.0 c.cut_colour-colour.result.0))
    c.in-None.ensures.none)
    ∙ parts_are_terms c.args.usual c.cut_time.result.0 (words_of c.args.text.now) (words_of c.cut_time.result.1.now)
    (words_of c.behind_unrated-rest.result.now)
    (words_of c.cut_variant-variant.result.1.now) (words_of c.cut_colour-colour.result.1.now)
    c.cut_variant-variant.result.0 c.cut_colour-colour.result.0
    c.cut_time.ensures c.behind_unrated-rest.ensures c.cut_variant-variant.ensures c.cut_colour-colour.ensures
