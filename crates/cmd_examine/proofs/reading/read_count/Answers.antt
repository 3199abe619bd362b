use Rattle.cmd_examine.proofs.Counts.{count_found, count_missing, count_nought}
use Rattle.cmd_examine.proofs.reading.read_count.Goals as goal

pub returns-in_default : goal.returns-in_default
returns-in_default c = count_missing c.args.bytes.now (rw c.in_default.is at c.read_number.ensures.none)

pub returns-then-number-eq0 : goal.returns-then-number-eq0
returns-then-number-eq0 c = count_nought c.args.bytes.now c.in-Some.number c.in-Some.ensures.value c.if-number-eq0.true

pub returns : goal.returns
returns c = count_found c.args.bytes.now c.in-Some.number c.in-Some.ensures.value c.if-number-eq0.false
