use Rattle.std.proofs.Common.{◌≡◌, [], ◌∙◌}
use Rattle.line_reader.specs.Reading.{rest_reading}
use Rattle.line_reader.specs.Reader.{rest_to_come}
use Rattle.line_reader.proofs.Steps.{rest_all}
use Rattle.line_reader.proofs.reader.LineReader.rest.Goals as goal
use Rattle.std.proofs.lemmas.Result.{IfOk-weaker}

pub returns : goal.returns
returns c =
    IfOk-weaker c.read_rest.result (λ rest. rest ≡ rest_reading c.bytes.result.now)
    (λ rest. rest ≡ rest_to_come c.args.self.now [])
    (λ rest e.
    e
    ∙ rest_all c.self.inside.cutter c.duplicate-cutter.result c.pass_all.new.cutter c.self.inside.looked_at
    c.self.inside.fed.items c.as_slice.result.now c.bytes.result.now c.args.self.now
    c.self.view_is c.duplicate-cutter.ensures c.as_slice.ensures.value c.pass_all.ensures c.bytes.ensures.kept
    c.bytes.ensures.bytes)
    c.read_rest.ensures
