use Rattle.cmd_lines.proofs.closing.ClosingMachineFeeder.finish.Goals as goal

pub finish-requires : goal.finish-requires
finish-requires g c = rw c.self.view_is c.requires
