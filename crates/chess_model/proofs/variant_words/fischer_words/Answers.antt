use Rattle.std.proofs.Common.{arith, ap, ◌∙◌}
use Rattle.chess_model.proofs.FischerWords.{value_of, words_with, one_digit, two_digits, three_digits, one_text, two_text, three_text}
use Rattle.chess_model.proofs.variant_words.fischer_words.Goals as goal

pub unwrap-requires : goal.unwrap-requires
unwrap-requires c =
    c.of.ensures.readable.1
    (one_text c.digit-units.result (omega (arith, c.digit-units.ensures)) (omega (arith, c.digit-units.ensures)))

pub returns-then-number-lt10 : goal.returns-then-number-lt10
returns-then-number-lt10 c =
    let digits = one_digit c.args.number c.digit-units.result c.if-number-lt10.true c.digit-units.ensures in
    value_of c.of.result c.unwrap.result _ c.unwrap.ensures c.of.ensures.value ∙ ap words_with digits

pub unwrap-requires-then-number-lt100 : goal.unwrap-requires-then-number-lt100
unwrap-requires-then-number-lt100 c =
    c.of-then-number-lt100.ensures.readable.1
    (two_text c.digit-tens.result c.digit-units.result (omega (arith, c.digit-tens.ensures))
    (omega (arith, c.digit-tens.ensures))
    (omega (arith, c.digit-units.ensures)) (omega (arith, c.digit-units.ensures)))

pub returns-then-number-lt100 : goal.returns-then-number-lt100
returns-then-number-lt100 c =
    let digits =
    two_digits c.args.number c.digit-tens.result c.digit-units.result (omega (arith, c.if-number-lt10.false))
    c.if-number-lt100.true
    c.digit-tens.ensures c.digit-units.ensures in
    value_of c.of-then-number-lt100.result c.unwrap-then-number-lt100.result _ c.unwrap-then-number-lt100.ensures
    c.of-then-number-lt100.ensures.value
    ∙ ap words_with digits

pub unwrap-requires-2 : goal.unwrap-requires-2
unwrap-requires-2 c =
    c.of-2.ensures.readable.1
    (three_text c.digit-hundreds.result c.digit-tens.result c.digit-units.result
    (omega (arith, c.digit-hundreds.ensures, c.requires)) (omega (arith, c.digit-hundreds.ensures, c.requires))
    (omega (arith, c.digit-tens.ensures)) (omega (arith, c.digit-tens.ensures))
    (omega (arith, c.digit-units.ensures)) (omega (arith, c.digit-units.ensures)))

pub returns : goal.returns
returns c =
    let digits = three_digits c.args.number c.digit-hundreds.result c.digit-tens.result c.digit-units.result
    (omega (arith, c.if-number-lt100.false)) c.requires c.digit-hundreds.ensures c.digit-tens.ensures
    c.digit-units.ensures in
    value_of c.of-2.result c.unwrap-2.result _ c.unwrap-2.ensures c.of-2.ensures.value ∙ ap words_with digits
