use Rattle.cmd_examine.proofs.answering.ExaminerLineAnswerer.answer_line.Goals as goal

pub returns : goal.returns
returns c = rw c.self.view_is at c.answer_line.ensures
