use Rattle.std.proofs.Common.{◌≡◌, ◌+◌, ◌-◌, ◌<◌, ◌≤◌, length, sym, ap, ◌∙◌, arith}
use Rattle.examine_board.specs.Answers.{answer, exam_left_by}
use Rattle.examine_board.specs.Exam.{ExamState}
use Rattle.examine_board.proofs.Undone.{forwarded-refused, forwarded-made}
use Rattle.examine_board.proofs.exam.Exam.forward.Goals as goal

pub returns-then-left-n-clause-answer : goal.returns-then-left-n-clause-answer
returns-then-left-n-clause-answer c =
    let e = c.args.self.now in
    let point = ap (λ (x : ExamState). x.point) c.self.view_is in
    let few : length e.list - e.point < c.args.n = omega (arith, point, c.len.ensures, c.if-left-n.true) in
    sym (ap answer (forwarded-refused e c.args.n few))

pub returns-then-left-n-clause-after : goal.returns-then-left-n-clause-after
returns-then-left-n-clause-after c =
    let e = c.args.self.now in
    let point = ap (λ (x : ExamState). x.point) c.self.view_is in
    let few : length e.list - e.point < c.args.n = omega (arith, point, c.len.ensures, c.if-left-n.true) in
    sym (ap (exam_left_by e) (forwarded-refused e c.args.n few))

pub returns-clause-answer : goal.returns-clause-answer
returns-clause-answer c =
    let e = c.args.self.now in
    let point = ap (λ (x : ExamState). x.point) c.self.view_is in
    let many : c.args.n ≤ length e.list - e.point = omega (arith, point, c.len.ensures, c.if-left-n.false) in
    sym (ap answer (forwarded-made e c.args.n many))

pub returns-clause-after : goal.returns-clause-after
returns-clause-after c =
    let e = c.args.self.now in
    let point = ap (λ (x : ExamState). x.point) c.self.view_is in
    let from = ap (λ (x : ExamState). x.point) c.go_on.view_is in
    let many : c.args.n ≤ length e.list - e.point = omega (arith, point, c.len.ensures, c.if-left-n.false) in
    let steps : c.from-n.result ≡ c.args.n = c.from-n.ensures in
    c.go_on-2.ensures ∙ (λ i. record e { point = from i + steps i })
    ∙ sym (ap (exam_left_by e) (forwarded-made e c.args.n many))
