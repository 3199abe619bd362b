use Rattle.line_reader.proofs.Whole.{are_lines, only_lines}
use Rattle.line_reader.proofs.laws.one_list_of_lines.Goals as goal

pub returns-clause-given : goal.returns-clause-given
returns-clause-given c = are_lines

pub returns-clause-only : goal.returns-clause-only
returns-clause-only c = only_lines
