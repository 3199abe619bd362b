use Rattle.std.proofs.Common.{◌≡◌, ◌≤◌, length}
use Rattle.cmd_lines.specs.Reading.{Reading}
use Rattle.cmd_lines.proofs.answering.answer_reads.Given as goal

abbrev pub invariant-reads : goal.invariant-reads
invariant-reads g l = record {
  reading : Reading (g.F.Feeder.feeding l.initial.feeder) (g.S.Source.left l.initial.source) (g.S.Source.left l.source)
      (g.K.Sink.written l.initial.sink) (g.K.Sink.written l.sink) l.feeder l.counter;
  read_count : g.S.Source.faults l.initial.source ≤ g.S.Source.faults l.source;
  write_count : g.K.Sink.faults l.initial.sink ≤ g.K.Sink.faults l.sink;
  room : length l.buf ≡ 1024;
}
