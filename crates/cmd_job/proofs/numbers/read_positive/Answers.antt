use Rattle.std.proofs.Common.{◌≡◌, arith, sym, ◌∙◌}
use Rattle.std.proofs.lemmas.Fmt.{decimal_injective}
use Rattle.cmd_job.proofs.numbers.read_positive.Goals as goal

pub returns-then-number-eq0-clause-none : goal.returns-then-number-eq0-clause-none
returns-then-number-eq0-clause-none c = λ n h.
    let read = c.in_ok-number.ensures.value in
    let same : n ≡ c.in_ok-number.number =
    decimal_injective n c.in_ok-number.number (omega (arith, h.0.1, c.ranges.most.fits))
    (omega (arith, read.1, c.ranges.most.fits)) (sym h.0.0 ∙ sym c.as_bytes.ensures.value ∙ read.0) in
    absurd (omega (arith, h.1, same, c.if-number-eq0.true))
