use Rattle.std.proofs.Common.{◌≡◌, ◌-◌, sym, ap, ◌∙◌, arith}
use Rattle.examine_board.specs.Answers.{answer, exam_left_by}
use Rattle.examine_board.specs.Exam.{ExamState}
use Rattle.examine_board.proofs.Undone.{backed-refused, backed-made}
use Rattle.examine_board.proofs.exam.Exam.back.Goals as goal

pub returns-then-self-n-clause-answer : goal.returns-then-self-n-clause-answer
returns-then-self-n-clause-answer c =
    let e = c.args.self.now in
    let point = ap (λ (x : ExamState). x.point) c.self.view_is in
    sym (ap answer (backed-refused e c.args.n (omega (arith, point, c.if-self-n.true))))

pub returns-then-self-n-clause-after : goal.returns-then-self-n-clause-after
returns-then-self-n-clause-after c =
    let e = c.args.self.now in
    let point = ap (λ (x : ExamState). x.point) c.self.view_is in
    sym (ap (exam_left_by e) (backed-refused e c.args.n (omega (arith, point, c.if-self-n.true))))

pub returns-clause-answer : goal.returns-clause-answer
returns-clause-answer c =
    let e = c.args.self.now in
    let point = ap (λ (x : ExamState). x.point) c.self.view_is in
    sym (ap answer (backed-made e c.args.n (omega (arith, point, c.if-self-n.false))))

pub returns-clause-after : goal.returns-clause-after
returns-clause-after c =
    let e = c.args.self.now in
    let point = ap (λ (x : ExamState). x.point) c.self.view_is in
    let from = ap (λ (x : ExamState). x.point) c.go_back.view_is in
    let steps : c.from-n.result ≡ c.args.n = c.from-n.ensures in
    c.go_back-2.ensures ∙ (λ i. record e { point = from i - steps i })
    ∙ sym (ap (exam_left_by e) (backed-made e c.args.n (omega (arith, point, c.if-self-n.false))))
