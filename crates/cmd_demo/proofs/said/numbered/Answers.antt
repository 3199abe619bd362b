use Rattle.std.proofs.Common.{sym, subst, arith}
use Rattle.fics_words.specs.Line.{IsLine}
use Rattle.cmd_demo.proofs.Printed.{number_line}
use Rattle.cmd_demo.proofs.said.numbered.Goals as goal

pub from_bytes-requires : goal.from_bytes-requires
from_bytes-requires c =
    subst IsLine (sym c.in_ok-bytes.ensures)
    (number_line c.args.front.now _ c.requires.words (omega (arith, c.draw-number.ensures.within, c.requires.few)))
