use Rattle.examine_board.specs.Exam.{present}
use Rattle.examine_board.specs.Same.{Share}
use Rattle.examine_board.proofs.exam.Exam.kept.Given as goal

abbrev pub invariant-loop-point : goal.invariant-loop-point
invariant-loop-point l = Share (present l.self) l.self.stored l.point
