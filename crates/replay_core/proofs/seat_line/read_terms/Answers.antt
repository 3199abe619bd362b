use Rattle.std.proofs.Common.{◌^◌, ◌<◌, ◌∷◌, ◌++◌, arith, sym, ◌∙◌}
use Rattle.std.specs.Prelude.{decimal}
use Rattle.chess_model.specs.VariantWord.{word_of}
use Rattle.fics_words.specs.Blank.{blank}
use Rattle.replay_core.proofs.Cuts.{one_number}
use Rattle.replay_core.proofs.seat_line.read_terms.Goals as goal

-- what follows the minutes would begin with the increment
pub returns-in_default-cut_number-clause-none : goal.returns-in_default-cut_number-clause-none
returns-in_default-cut_number-clause-none c terms h e =
    let small : terms.minutes < 2 ^ 64 = omega (arith, h.minutes) in
    let read : c.in-Some.minutes < 2 ^ 64 = omega (arith, c.in-Some.ensures.bound) in
    let rest =
    one_number c.in-Some.minutes terms.minutes c.in-Some.rest.now
    (decimal terms.increment ++ blank ∷ word_of terms.variant) read small (sym c.in-Some.ensures.parts ∙ e) in
    c.in_default-cut_number.ensures.none terms.increment (word_of terms.variant) h.increment rest.1

-- what is left would be the variant's word
pub returns-in_default-read_variant-clause-none : goal.returns-in_default-read_variant-clause-none
returns-in_default-read_variant-clause-none c terms h e =
    let small : terms.minutes < 2 ^ 64 = omega (arith, h.minutes) in
    let read : c.in-Some.minutes < 2 ^ 64 = omega (arith, c.in-Some.ensures.bound) in
    let rest =
    one_number c.in-Some.minutes terms.minutes c.in-Some.rest.now
    (decimal terms.increment ++ blank ∷ word_of terms.variant) read small (sym c.in-Some.ensures.parts ∙ e) in
    let word =
    one_number c.in-Some-cut_number.increment terms.increment c.in-Some-cut_number.rest.now (word_of terms.variant)
    (omega (arith, c.in-Some-cut_number.ensures.bound)) (omega (arith, h.increment))
    (sym c.in-Some-cut_number.ensures.parts ∙ rest.1) in
    c.in_default-read_variant.ensures.none terms.variant word.1
