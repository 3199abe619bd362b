use Rattle.cmd_tourney.proofs.answering.TourneyEveningLineAnswerer.answer_line.Goals as goal

pub returns : goal.returns
returns c = rw c.self.view_is at c.answer_line.ensures
