use Rattle.std.proofs.Common.{[], sym, ◌∙◌}
use Rattle.line_reader.specs.Reader.{rest_to_come, reading_on}
use Rattle.line_reader.proofs.Steps.{all_ends, all_pass}
use Rattle.line_reader.proofs.reader.pass_all.Goals as goal
use Rattle.line_reader.proofs.reader.pass_all.Goals.{then-ends_line, else-ends_line}

pub loop-byte-preserved : goal.loop-byte-preserved
loop-byte-preserved c =
    let whole = rest_to_come (reading_on c.args.cutter.now c.args.bytes.now) [] in
    elim c.if-ends_line.branch [
      | then-ends_line w ↦
          all_ends c.loop-byte.cutter c.if-ends_line.cutter c.args.bytes.now c.loop-byte.byte-index whole
          c.loop-byte-test.true c.ends_line.ensures.kept
          (sym c.ends_line.ensures.value ∙ w.if-ends_line.true) (w.cutter-is ∙ w.clear.ensures) c.loop-byte.invariant
      | else-ends_line w ↦
          all_pass c.loop-byte.cutter c.if-ends_line.cutter c.args.bytes.now c.loop-byte.byte-index whole
          c.loop-byte-test.true c.ends_line.ensures.kept
          (sym c.ends_line.ensures.value ∙ w.if-ends_line.false) (w.cutter-is ∙ w.pass.ensures) c.loop-byte.invariant
    ]
