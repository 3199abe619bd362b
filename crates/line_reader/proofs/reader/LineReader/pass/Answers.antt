use Rattle.line_reader.proofs.Steps.{view_passed}
use Rattle.line_reader.proofs.reader.LineReader.pass.Goals as goal

pub returns : goal.returns
returns c =
    view_passed c.self.inside.cutter c.pass.new.self c.self.inside.looked_at c.self.inside.fed.items c.args.byte
    c.args.self.now c.self.view_is c.pass.ensures
