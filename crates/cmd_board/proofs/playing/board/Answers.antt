use Rattle.cmd_board.specs.Transcript.{board_lines}
use Rattle.cmd_lines.proofs.LineCommandEnds.{AnswersPart-none}
use Rattle.cmd_board.proofs.playing.board.Goals as goal

pub returns-in_default-clause-ends : goal.returns-in_default-clause-ends
returns-in_default-clause-ends g c =
    AnswersPart-none board_lines (g.S.Source.left c.args.source.now) (g.K.Sink.written c.args.sink.now)
