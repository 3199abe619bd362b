use Rattle.line_reader.proofs.Steps.{view_ended}
use Rattle.line_reader.proofs.reader.LineReader.end_line.Goals as goal

pub returns : goal.returns
returns c =
    view_ended c.self.inside.cutter c.clear.new.self c.self.inside.looked_at c.self.inside.fed.items c.args.self.now
    c.self.view_is c.clear.ensures
