use Rattle.std.proofs.Common.{◌≡◌, ℕ, ◌≤◌, true, false, min, length, sym, ap, subst, ◌∙◌, arith}
use Rattle.examine_board.specs.Exam.{ExamState, present}
use Rattle.examine_board.specs.Same.{Share, same_half}
use Rattle.examine_board.proofs.Shared.{kept_next, kept_until, kept_whole}
use Rattle.examine_board.proofs.exam.Exam.kept.Goals as goal

pub returns-then-not-is_same_half : goal.returns-then-not-is_same_half
returns-then-not-is_same_half c =
    let e = c.args.self.now in
    let point = ap (λ (x : ExamState). x.point) c.self.view_is in
    let stored = ap (λ (x : ExamState). x.stored) c.self.view_is in
    let many = ap length stored in
    let apart : same_half c.half-half.result c.index-as_slice-point.result ≡ false =
    sym c.is_same_half.ensures ∙ c.if-not-is_same_half.true in
    kept_until e c.as_slice.result.now c.loop-point.point c.half-half.result c.index-as_slice-point.result
    c.loop-point.invariant
    (omega (arith, point, c.loop-point-test.true, c.min-most.ensures))
    (omega (arith, many, c.loop-point-test.true, c.min-most.ensures, c.len.ensures))
    c.half-half.ensures.half (c.as_slice.ensures ∙ stored) c.index-as_slice-point.is apart

pub loop-point-preserved : goal.loop-point-preserved
loop-point-preserved c =
    let e = c.args.self.now in
    let point = ap (λ (x : ExamState). x.point) c.self.view_is in
    let stored = ap (λ (x : ExamState). x.stored) c.self.view_is in
    let many = ap length stored in
    let same : same_half c.half-half.result c.index-as_slice-point.result ≡ true =
    sym c.is_same_half.ensures ∙ c.if-not-is_same_half.false in
    kept_next e c.as_slice.result.now c.loop-point.point c.half-half.result c.index-as_slice-point.result
    c.loop-point.invariant
    (omega (arith, point, c.loop-point-test.true, c.min-most.ensures))
    (omega (arith, many, c.loop-point-test.true, c.min-most.ensures, c.len.ensures))
    c.half-half.ensures.half (c.as_slice.ensures ∙ stored) c.index-as_slice-point.is same

pub returns : goal.returns
returns c =
    let e = c.args.self.now in
    let point = ap (λ (x : ExamState). x.point) c.self.view_is in
    let stored = ap (λ (x : ExamState). x.stored) c.self.view_is in
    let many = ap length stored in
    let all : c.loop-point.point ≡ c.min-most.result =
    omega (arith, c.loop-point-test.false, c.loop-point.auto.point-end) in
    let within : e.point ≤ length e.list =
    subst (λ (x : ExamState). x.point ≤ length x.list) c.self.view_is c.self.invariant.point in
    let most : c.min-most.result ≡ min e.point (length e.stored) =
    omega (arith, point, many, c.min-most.ensures, c.len.ensures) in
    kept_whole e c.min-most.result (subst (λ (k : ℕ). Share (present e) e.stored k) all c.loop-point.invariant) within
    most
