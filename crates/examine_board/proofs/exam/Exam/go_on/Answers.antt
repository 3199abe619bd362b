use Rattle.std.proofs.Common.{◌+◌, length, sym, ap, ◌∙◌, arith}
use Rattle.examine_board.specs.Exam.{ExamState}
use Rattle.examine_board.proofs.exam.Exam.go_on.Goals as goal

pub loop-next-init : goal.loop-next-init
loop-next-init c =
    let point = ap (λ (e : ExamState). e.point) c.self.view_is in
    λ i. record c.args.self.now { point = sym point i }

pub step-requires : goal.step-requires
step-requires c =
    let point = ap (λ (e : ExamState). e.point) c.loop-next.invariant in
    let many = ap (λ (e : ExamState). length e.list) c.loop-next.invariant in
    omega (arith, point, many, c.loop-next-test.true, c.requires.high)

pub loop-next-preserved : goal.loop-next-preserved
loop-next-preserved c = c.step.ensures ∙ ap (λ (e : ExamState). record e { point = e.point + 1 }) c.loop-next.invariant
