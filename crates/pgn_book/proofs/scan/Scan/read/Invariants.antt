use Rattle.std.proofs.Common.{◌-◌, ◌≤◌, drop, length}
use Rattle.pgn_book.specs.Reader.{reader_facing}
use Rattle.pgn_book.proofs.ReaderSteps.{HasPassed}
use Rattle.pgn_book.proofs.scan.Scan.read.Given as goal

-- no game ended in what was read so far
abbrev pub invariant-loop-read : goal.invariant-loop-read
invariant-loop-read l = record {
  passed : HasPassed (reader_facing l.fn.self l.bytes) (reader_facing l.self (drop l.read l.bytes));
  within : l.read ≤ length l.bytes;
}

abbrev pub decreases-loop-read : goal.decreases-loop-read
decreases-loop-read l = length l.bytes - l.read
