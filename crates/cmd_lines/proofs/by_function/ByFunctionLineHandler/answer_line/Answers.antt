use Rattle.cmd_lines.proofs.PlayedSteps.{AfterAnswering-begun}
use Rattle.cmd_lines.proofs.by_function.ByFunctionLineHandler.answer_line.Goals as goal

pub returns : goal.returns
returns g c =
    AfterAnswering-begun g.A.LineAnswerer.command c.args.self.now c.args.line.now c.args.out.now.items
    c.answer_line.new.self c.answer_line.new.out.items c.answer_line.result c.requires.some c.requires.short
    (rw c.self.view_is at c.answer_line.ensures)
