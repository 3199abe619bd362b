use Rattle.std.proofs.Common.{[], ◌++◌, take, refl, ◌∙◌, arith}
use Rattle.std.proofs.lemmas.List.{length-take-le}
use Rattle.std.proofs.KnownBytes.{Keeps-refl}
use Rattle.cmd_lines.proofs.Rounds.{Reading-start, Reading-next, can_be_fed, FeederEnds-refused, FeederEnds-finished, OnReadFault-refused, OnReadFault-finished, OnWriteFault-since, Rose-since, IsBegun-so_far, IsSpent-reads}
use Rattle.cmd_lines.proofs.answering.answer_reads.Goals as goal

pub reads-init : goal.reads-init
reads-init g c =
    let left = g.S.Source.left c.args.source.now in
    let written = g.K.Sink.written c.args.sink.now in
    record {
      reading = Reading-start (g.F.Feeder.feeding c.args.feeder.now) c.args.feeder.now left written c.requires;
      read_count = omega arith;
      write_count = omega arith;
      room = refl;
    }

pub answer-requires : goal.answer-requires
answer-requires g c =
    let i = c.reads.invariant in
    let piece = length-take-le c.in-Bytes.n c.read.new.buf c.in-Bytes.ensures.took.1 in
    can_be_fed g.F.Feeder.feeding c.args.feeder.now _ _ _ _ c.reads.feeder c.reads.counter
    (take c.in-Bytes.n c.read.new.buf) (omega arith)
    (omega (arith, piece, c.in-Bytes.ensures.took.1, i.room, c.read.auto.buf)) i.reading

pub returns-in-Err-clause-ends : goal.returns-in-Err-clause-ends
returns-in-Err-clause-ends g c =
    let r = c.reads.invariant.reading in
    let w = g.K.Sink.written in
    FeederEnds-refused (g.F.Feeder.feeding c.args.feeder.now) _ _ (g.S.Source.left c.read.new.self) _ _
    (w c.answer.new.sink) c.reads.feeder c.answer.new.feeder c.reads.counter r c.in-Bytes.n c.read.new.buf
    c.in-Bytes.ensures.took c.in-Err.end
    (c.in-Err.ensures.answered c.args.feeder.now r.taken r.text (w c.args.sink.now) r.wrote r.fed)

pub returns-in-Err-clause-read_cause : goal.returns-in-Err-clause-read_cause
returns-in-Err-clause-read_cause g c =
    let r = c.reads.invariant.reading in
    let w = g.K.Sink.written in
    OnReadFault-refused (g.F.Feeder.feeding c.args.feeder.now) _ (r.taken ++ take c.in-Bytes.n c.read.new.buf)
    (w c.args.sink.now) (w c.answer.new.sink) _ c.in-Err.end
    (c.in-Err.ensures.answered c.args.feeder.now r.taken r.text (w c.args.sink.now) r.wrote r.fed)

pub returns-in-Err-clause-write_cause : goal.returns-in-Err-clause-write_cause
returns-in-Err-clause-write_cause g c =
    OnWriteFault-since _ _ _ c.in-Err.end c.reads.invariant.write_count c.in-Err.ensures.cause

pub finish-requires : goal.finish-requires
finish-requires g c =
    can_be_fed g.F.Feeder.feeding c.args.feeder.now _ _ _ _ c.reads.feeder c.reads.counter [] (omega arith)
    (omega arith) c.reads.invariant.reading

pub returns-in-End-clause-ends : goal.returns-in-End-clause-ends
returns-in-End-clause-ends g c =
    let r = c.reads.invariant.reading in
    let w = g.K.Sink.written in
    FeederEnds-finished (g.F.Feeder.feeding c.args.feeder.now) _ _ (g.S.Source.left c.read.new.self) _ _ c.reads.feeder
    c.reads.counter r c.in-End.ensures.took.0 (w c.finish.new.sink) c.finish.result c.in-End.ensures.took.1
    (c.finish.ensures.finished c.args.feeder.now r.taken r.text (w c.args.sink.now) r.wrote r.fed)

pub returns-in-End-clause-read_cause : goal.returns-in-End-clause-read_cause
returns-in-End-clause-read_cause g c =
    let r = c.reads.invariant.reading in
    let w = g.K.Sink.written in
    OnReadFault-finished (g.F.Feeder.feeding c.args.feeder.now) r.taken (w c.args.sink.now) (w c.finish.new.sink) _
    c.finish.result
    (c.finish.ensures.finished c.args.feeder.now r.taken r.text (w c.args.sink.now) r.wrote r.fed)

pub returns-in-End-clause-write_cause : goal.returns-in-End-clause-write_cause
returns-in-End-clause-write_cause g c =
    OnWriteFault-since _ _ _ c.finish.result c.reads.invariant.write_count c.finish.ensures.cause

pub returns-in-Failed-clause-ends : goal.returns-in-Failed-clause-ends
returns-in-Failed-clause-ends g c =
    IsBegun-so_far (g.F.Feeder.feeding c.args.feeder.now) _ _ (g.S.Source.left c.read.new.self) _ _ c.reads.feeder
    c.reads.counter c.reads.invariant.reading c.in-Failed.ensures.took

pub returns-in-Failed-clause-read_cause : goal.returns-in-Failed-clause-read_cause
returns-in-Failed-clause-read_cause g c =
    Rose-since _ _ _ c.reads.invariant.read_count c.in-Failed.ensures.cause

pub reads-preserved : goal.reads-preserved
reads-preserved g c =
    let i = c.reads.invariant in
    let r = i.reading in
    let w = g.K.Sink.written in
    record {
      reading =
          Reading-next (g.F.Feeder.feeding c.args.feeder.now) _ _ (g.S.Source.left c.read.new.self) _ _
          (w c.answer.new.sink) c.reads.feeder c.answer.new.feeder c.reads.counter r c.in-Bytes.n c.read.new.buf
          c.in-Bytes.ensures.took (c.read.auto.buf ∙ i.room)
          (c.in_default.ensures.answered c.args.feeder.now r.taken r.text (w c.args.sink.now) r.wrote r.fed);
      read_count = omega (arith, i.read_count, c.in-Bytes.ensures.counted);
      write_count = omega (arith, i.write_count, c.in_default.ensures.counted);
      room = c.read.auto.buf ∙ i.room;
    }

pub returns-clause-ends : goal.returns-clause-ends
returns-clause-ends g c =
    let left = g.S.Source.left c.reads.source in
    IsSpent-reads (g.F.Feeder.feeding c.args.feeder.now) _ _ left _ _ c.reads.feeder c.reads.counter
    c.reads.invariant.reading (Keeps-refl left) (omega arith)
