use Rattle.cmd_lines.proofs.by_function.answer_each.Goals as goal

pub returns-clause-ends : goal.returns-clause-ends
returns-clause-ends g c = rw c.requires at c.answer_from.ensures.ends
