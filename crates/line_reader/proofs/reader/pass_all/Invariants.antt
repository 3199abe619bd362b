use Rattle.std.proofs.Common.{◌≡◌, [], drop}
use Rattle.line_reader.specs.Reader.{rest_to_come, reading_on}
use Rattle.line_reader.proofs.reader.pass_all.Given as goal

-- the bytes so far and those behind them leave the same rest
abbrev pub invariant-loop-byte : goal.invariant-loop-byte
invariant-loop-byte l =
    rest_to_come (reading_on l.cutter (drop l.byte-index l.bytes)) []
    ≡ rest_to_come (reading_on l.fn.cutter l.fn.bytes) []
