use Rattle.std.proofs.Common.{◌^◌, ◌<◌, arith, sym, ◌∙◌}
use Rattle.std.specs.Prelude.{decimal}
use Rattle.replay_core.proofs.Cuts.{no_cut, one_cut, decimal_is_word}
use Rattle.replay_core.proofs.words.cut_number.Goals as goal

-- without a blank there is nothing to cut
pub returns-in_default-clause-none : goal.returns-in_default-clause-none
returns-in_default-clause-none c number rest le e =
    no_cut c.args.bytes.now c.in_default.ensures.none (decimal number) rest e

-- the number would be the word before the first blank
pub returns-in_default-read_number-clause-none : goal.returns-in_default-read_number-clause-none
returns-in_default-read_number-clause-none c number rest le e =
    let small : number < 2 ^ 64 = omega arith in
    let one =
    one_cut c.in-Some.word.now (decimal number) c.in-Some.rest.now rest c.in-Some.ensures.word
    (decimal_is_word number small) (sym c.in-Some.ensures.parts ∙ e) in
    c.in_default-read_number.ensures.none number le one.0
