use Rattle.cmd_lines.proofs.closing.ClosingMachineFeeder.feed.Goals as goal

pub feed-requires : goal.feed-requires
feed-requires g c = rw c.self.view_is c.requires
