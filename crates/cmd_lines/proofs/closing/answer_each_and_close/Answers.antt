use Rattle.cmd_lines.proofs.ClosingEnds.{ClosingCommandEnds-fed}
use Rattle.cmd_lines.proofs.closing.answer_each_and_close.Goals as goal

pub returns-clause-ends : goal.returns-clause-ends
returns-clause-ends g c =
    let a = g.A.ClosingAnswerer in
    ClosingCommandEnds-fed g.A.LineAnswerer.command a.closing _ _ _ _ c.answer_pieces.result
    (rw c.requires at (rw c.new-machine.ensures at c.answer_pieces.ensures.ends))
