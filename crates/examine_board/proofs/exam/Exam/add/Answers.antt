use Rattle.std.proofs.Common.{◌∷◌, [], length, sym, ap, subst, arith, length-append}
use Rattle.examine_board.specs.Exam.{ExamState}
use Rattle.examine_board.specs.Laid.{MayLie}
use Rattle.examine_board.specs.Play.{uncharged}
use Rattle.examine_board.proofs.exam.Exam.add.Goals as goal

pub push-requires-clause-lies : goal.push-requires-clause-lies
push-requires-clause-lies c =
    subst (λ (e : ExamState). MayLie e.terms e.list (uncharged c.args.what)) (sym c.cut.ensures.after) c.requires.lies

pub push-requires-clause-room : goal.push-requires-clause-room
push-requires-clause-room c =
    let point = ap (λ (e : ExamState). e.point) c.cut.ensures.after in
    omega (arith, point, c.cut.ensures.end, c.requires.room)

pub step-requires : goal.step-requires
step-requires c =
    let point = ap (λ (e : ExamState). e.point) c.push.ensures in
    let many = ap (λ (e : ExamState). length e.list) c.push.ensures in
    let longer = length-append c.cut.new.self.list (uncharged c.args.what ∷ []) in
    omega (arith, point, many, longer, c.cut.ensures.end)
