use Rattle.cmd_lines.proofs.Feeding.{Progress-start}
use Rattle.cmd_lines.proofs.MachineEnds.{HandlerEnds-fed}
use Rattle.cmd_lines.proofs.by_lines.answer_lines.Goals as goal

pub answer_pieces-requires : goal.answer_pieces-requires
answer_pieces-requires g c =
    rw c.new.ensures (Progress-start (g.T.LineHandler.reached c.args.handler) c.args.handler c.requires)

pub returns-clause-ends : goal.returns-clause-ends
returns-clause-ends g c =
    let h = g.T.LineHandler in
    HandlerEnds-fed (h.reached c.args.handler) h.closed h.ending _ _ _ _ c.answer_pieces.result
    (rw c.new.ensures at c.answer_pieces.ensures.ends)
