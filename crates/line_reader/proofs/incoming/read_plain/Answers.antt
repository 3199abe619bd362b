use Rattle.line_reader.proofs.Printable.{plain_found, plain_missed, plain_long}
use Rattle.line_reader.proofs.incoming.read_plain.Goals as goal

pub returns-then-line-gt-MOST_LINE_BYTES : goal.returns-then-line-gt-MOST_LINE_BYTES
returns-then-line-gt-MOST_LINE_BYTES c = plain_long c.args.line.now c.if-line-gt-MOST_LINE_BYTES.true

pub returns-in-Ok-Some : goal.returns-in-Ok-Some
returns-in-Ok-Some c =
    plain_found c.in-Ok-Some.field-0 c.in-Ok-Some.text c.args.line.now (c.in-Ok-Some.ensures {u = tt})
    c.in-Ok-Some.field-0-is

pub returns-in-Ok-None : goal.returns-in-Ok-None
returns-in-Ok-None c =
    plain_missed c.in-Ok-None.field-0 c.args.line.now c.if-line-gt-MOST_LINE_BYTES.false (c.in-Ok-None.ensures {u = tt})
    c.in-Ok-None.field-0-is
