use Rattle.std.proofs.Common.{◌≡◌, true, sym, ap, ◌∙◌, arith}
use Rattle.std.proofs.lemmas.Fmt.{decimal_injective}
use Rattle.stamp_codec.specs.Message.{stamp_of, message_of}
use Rattle.stamp_codec.specs.Sealed.{message}
use Rattle.stamp_codec.specs.Spelling.{written}
use Rattle.stamp_codec.proofs.Each.{some_both, none_from}
use Rattle.stamp_codec.proofs.Written.{stamp_small, no_text_end, text_cut, no_stamp_end, stamp_cut, filled_by, written_by, written-message_of, is_message-of}
use Rattle.stamp_codec.proofs.plain.read_plain.Goals as goal

pub returns-in_default-clause-none : goal.returns-in_default-clause-none
returns-in_default-clause-none c other h e = no_text_end other c.args.plain.now c.in_default.ensures.none e

pub returns-in_default-cut_at-clause-none : goal.returns-in_default-cut_at-clause-none
returns-in_default-cut_at-clause-none c other h e =
    let text =
    text_cut other h c.args.plain.now c.in-Some.text.now c.in-Some.rest.now c.in-Some.ensures.unmarked
    c.in-Some.ensures.parts e in
    no_stamp_end other c.in-Some.rest.now c.in_default-cut_at.ensures.none text.1

pub returns-in_default-read_number-clause-none : goal.returns-in_default-read_number-clause-none
returns-in_default-read_number-clause-none c other h e =
    let text =
    text_cut other h c.args.plain.now c.in-Some.text.now c.in-Some.rest.now c.in-Some.ensures.unmarked
    c.in-Some.ensures.parts e in
    let stamp =
    stamp_cut other h c.in-Some.rest.now c.in-Some-cut_at.digits.now c.in-Some-cut_at.filled.now
    c.in-Some-cut_at.ensures.unmarked c.in-Some-cut_at.ensures.parts text.1 in
    c.in_default-read_number.ensures.none (stamp_of other) (omega (arith, stamp_small other h)) stamp.0

pub returns-then-not-are_pads-clause-none : goal.returns-then-not-are_pads-clause-none
returns-then-not-are_pads-clause-none c other h e =
    let text =
    text_cut other h c.args.plain.now c.in-Some.text.now c.in-Some.rest.now c.in-Some.ensures.unmarked
    c.in-Some.ensures.parts e in
    let stamp =
    stamp_cut other h c.in-Some.rest.now c.in-Some-cut_at.digits.now c.in-Some-cut_at.filled.now
    c.in-Some-cut_at.ensures.unmarked c.in-Some-cut_at.ensures.parts text.1 in
    let yes : c.are_pads.result ≡ true =
    c.are_pads.ensures.1 (filled_by other c.args.plain.now c.in-Some-cut_at.filled.now e stamp.1) in
    let no = c.if-not-are_pads.true in
    cc

pub returns-clause-value : goal.returns-clause-value
returns-clause-value c =
    let digits = (c.in-Some-read_number.ensures {u = tt}).value in
    let says =
    written_by c.in-Some.text.now c.in-Some-read_number.stamp c.args.plain.now c.in-Some.rest.now
    c.in-Some-cut_at.digits.now c.in-Some-cut_at.filled.now
    c.in-Some.ensures.parts c.in-Some-cut_at.ensures.parts digits.0 (c.are_pads.ensures.0 c.if-not-are_pads.false) in
    some_both (λ sealed. message sealed ≡ message_of c.in-Some.text.now c.in-Some-read_number.stamp)
    (λ sealed. message sealed ≡ message_of c.in-Some.text.now c.in-Some-read_number.stamp)
    (λ sealed. c.args.plain.now ≡ written (message sealed))
    (λ sealed e f. says ∙ sym (written-message_of c.in-Some.text.now c.in-Some-read_number.stamp) ∙ sym (ap written e))
    c.say.result c.say.ensures.value c.say.ensures.value

pub returns-clause-none : goal.returns-clause-none
returns-clause-none c =
    let digits = (c.in-Some-read_number.ensures {u = tt}).value in
    none_from c.say.result (λ bad other h e.
    let text =
    text_cut other h c.args.plain.now c.in-Some.text.now c.in-Some.rest.now c.in-Some.ensures.unmarked
    c.in-Some.ensures.parts e in
    let stamp =
    stamp_cut other h c.in-Some.rest.now c.in-Some-cut_at.digits.now c.in-Some-cut_at.filled.now
    c.in-Some-cut_at.ensures.unmarked c.in-Some-cut_at.ensures.parts text.1 in
    let one =
    decimal_injective c.in-Some-read_number.stamp (stamp_of other) (omega (arith, digits.1))
    (omega (arith, stamp_small other h)) (sym digits.0 ∙ stamp.0) in
    bad (is_message-of other h c.in-Some.text.now c.in-Some-read_number.stamp text.0 one))
    c.say.ensures.none
