use Rattle.std.proofs.Common.{◌≤◌, take}
use Rattle.std.specs.Io.KnownBytes.{Appends}
use Rattle.cmd_pgn.specs.Exports.{exports}
use Rattle.cmd_pgn.proofs.writing.write_games.Given as goal

-- the exports of the games so far were written
abbrev pub invariant-loop-row : goal.invariant-loop-row
invariant-loop-row g l = record {
  written : Appends (g.K.Sink.written l.fn.sink) (g.K.Sink.written l.sink) (exports (take l.row-index l.games));
  counted : g.K.Sink.faults l.fn.sink ≤ g.K.Sink.faults l.sink;
}
