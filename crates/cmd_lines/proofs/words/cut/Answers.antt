use Rattle.std.proofs.Common.{take, sym, ap, ◌∙◌}
use Rattle.cmd_lines.proofs.Cuts.{after_is, after_none, before_none, place-found, place-missing}
use Rattle.fics_words.specs.Blank.{is_blank}
use Rattle.cmd_lines.proofs.words.cut.Goals as goal

pub returns-in-Some-clause-word : goal.returns-in-Some-clause-word
returns-in-Some-clause-word c =
    ap (λ k. take k c.args.bytes.now)
    (place-found is_blank c.args.bytes.now c.in-Some.place (sym c.first_blank.ensures.place ∙ c.in-Some.is))

pub returns-in-Some-clause-rest : goal.returns-in-Some-clause-rest
returns-in-Some-clause-rest c =
    after_is is_blank c.args.bytes.now c.in-Some.place
    (place-found is_blank c.args.bytes.now c.in-Some.place (sym c.first_blank.ensures.place ∙ c.in-Some.is))

pub returns-in-None-clause-word : goal.returns-in-None-clause-word
returns-in-None-clause-word c =
    before_none is_blank c.args.bytes.now
    (place-missing is_blank c.args.bytes.now (sym c.first_blank.ensures.place ∙ c.in-None.is))

pub returns-in-None-clause-rest : goal.returns-in-None-clause-rest
returns-in-None-clause-rest c =
    after_none is_blank c.args.bytes.now
    (place-missing is_blank c.args.bytes.now (sym c.first_blank.ensures.place ∙ c.in-None.is))
