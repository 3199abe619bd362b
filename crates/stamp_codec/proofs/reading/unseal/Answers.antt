use Rattle.std.proofs.Common.{◌≡◌, ◌-◌, length, true, sym, ap, ◌∙◌, refl}
use Rattle.stamp_codec.specs.Message.{is_message}
use Rattle.stamp_codec.specs.Sealed.{message}
use Rattle.stamp_codec.specs.Spelling.{written, swapped, IsStampedLine}
use Rattle.stamp_codec.proofs.Each.{some_both, none_from}
use Rattle.stamp_codec.proofs.Openings.{closed, spelled_by, says_written, spelled_closed, opened_none, opened_both}
use Rattle.stamp_codec.proofs.reading.unseal.Goals as goal

-- without the closing byte
pub returns-then-not-is_closed-clause-none : goal.returns-then-not-is_closed-clause-none
returns-then-not-is_closed-clause-none c other h =
    let yes : c.is_closed.result ≡ true = c.is_closed.ensures.closed.1 (spelled_closed c.args.raw.now other h) in
    let no = c.if-not-is_closed.true in
    cc

pub returns-then-not-is_closed-clause-opened : goal.returns-then-not-is_closed-clause-opened
returns-then-not-is_closed-clause-opened c = sym (opened_none c.args.raw.now (returns-then-not-is_closed-clause-none c))

pub returns-clause-sealed : goal.returns-clause-sealed
returns-clause-sealed c =
    let raw = c.args.raw.now in
    let ends =
    closed raw (length raw - 1) (c.is_closed.ensures.closed.0 c.if-not-is_closed.false).0 refl
    (c.is_closed.ensures.closed.0 c.if-not-is_closed.false).1 in
    let plain = c.swap_groups.ensures ∙ ap swapped c.decipher_line.ensures in
    some_both (λ sealed. is_message (message sealed) ≡ true)
    (λ sealed. c.swap_groups.new.bytes ≡ written (message sealed)) (λ sealed. IsStampedLine (message sealed) raw)
    (λ sealed said says.
    spelled_by raw (length raw - 1) (message sealed) c.is_closed.ensures.bytes ends said (sym plain ∙ says))
    c.read_plain.result c.read_plain.ensures.said c.read_plain.ensures.value

pub returns-clause-none : goal.returns-clause-none
returns-clause-none c =
    let raw = c.args.raw.now in
    let plain = c.swap_groups.ensures ∙ ap swapped c.decipher_line.ensures in
    none_from c.read_plain.result
    (λ bad other h. bad other h.said (plain ∙ says_written raw (length raw - 1) other refl h)) c.read_plain.ensures.none

pub returns-clause-opened : goal.returns-clause-opened
returns-clause-opened c =
    opened_both c.read_plain.result c.args.raw.now (returns-clause-sealed c) (returns-clause-none c)
