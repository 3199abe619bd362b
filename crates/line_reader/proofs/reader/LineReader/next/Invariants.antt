use Rattle.std.proofs.Common.{length}
use Rattle.line_reader.specs.Reader.{GiveSame}
use Rattle.line_reader.proofs.reader.LineReader.next.Given as goal

-- what was looked at so far has ended no line
abbrev pub invariant-loop-byte : goal.invariant-loop-byte
invariant-loop-byte l = GiveSame l.fn.self l.self

abbrev pub decreases-loop-byte : goal.decreases-loop-byte
decreases-loop-byte l = length l.self.fed
