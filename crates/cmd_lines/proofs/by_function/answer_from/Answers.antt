use Rattle.cmd_lines.specs.LineCommand.{begun_at}
use Rattle.cmd_lines.proofs.LineCommandEnds.{LineCommandEnds-played}
use Rattle.cmd_lines.proofs.PlayedSteps.{IsPlayed-none}
use Rattle.cmd_lines.proofs.by_function.answer_from.Goals as goal

pub answer_lines-requires : goal.answer_lines-requires
answer_lines-requires g c = IsPlayed-none (begun_at g.A.LineAnswerer.command c.args.answerer)

pub returns-clause-ends : goal.returns-clause-ends
returns-clause-ends g c =
    LineCommandEnds-played (begun_at g.A.LineAnswerer.command c.args.answerer) _ _ _ _ _ c.answer_lines.result
    c.answer_lines.ensures.ends
