use Rattle.cmd_lines.proofs.Feeding.{AfterFeeding-last}
use Rattle.cmd_lines.proofs.machine.MachineFeeder.finish.Goals as goal

pub returns : goal.returns
returns g c = λ start taken base p.
    let h = g.T.LineHandler in
    AfterFeeding-last (h.reached start.handler) h.closed h.ending taken c.args.self.now c.end_line.new.self base
    c.args.out.now.items c.end_line.new.out.items c.end_line.result p (c.end_line.ensures.line start.handler)
