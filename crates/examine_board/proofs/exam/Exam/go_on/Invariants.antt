use Rattle.std.proofs.Common.{◌≡◌}
use Rattle.examine_board.proofs.exam.Exam.go_on.Given as goal

abbrev pub invariant-loop-next : goal.invariant-loop-next
invariant-loop-next l = l.self ≡ record l.initial.self { point = l._next }
