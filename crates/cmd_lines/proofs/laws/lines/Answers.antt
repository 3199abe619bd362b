use Rattle.cmd_lines.proofs.Parts.{AreParts-pieces, AreParts-only}
use Rattle.cmd_lines.proofs.laws.lines.Goals as goal

pub returns-clause-parts : goal.returns-clause-parts
returns-clause-parts c = AreParts-pieces

pub returns-clause-only : goal.returns-clause-only
returns-clause-only c = AreParts-only
