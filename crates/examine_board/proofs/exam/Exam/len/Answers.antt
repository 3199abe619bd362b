use Rattle.std.proofs.Common.{◌≡◌, ◌++◌, length, take, ap, arith, length-append}
use Rattle.std.proofs.lemmas.List.{length-take-le}
use Rattle.examine_board.specs.Exam.{ExamState}
use Rattle.examine_board.proofs.exam.Exam.len.Goals as goal

pub returns : goal.returns
returns c =
    let i = c.self.inside in
    let same : length (take i.shared i.stored ++ i.branch) ≡ length c.args.self.now.list =
    ap (λ (e : ExamState). length e.list) c.self.view_is in
    omega (
      arith,
      same,
      length-append (take i.shared i.stored) i.branch,
      length-take-le i.shared i.stored c.self.invariant.shared,
      c.len.ensures.value,
    )
