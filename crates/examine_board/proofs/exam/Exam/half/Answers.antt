use Rattle.std.proofs.Common.{◌≡◌, ◌++◌, length, take, ap, subst, arith, length-append}
use Rattle.std.proofs.lemmas.List.{length-take-le}
use Rattle.std.specs.Prelude.{slice_get, Some}
use Rattle.game_records.specs.declared.stored_game.Half.{Half}
use Rattle.examine_board.specs.Exam.{ExamState}
use Rattle.examine_board.specs.Laid.{MayLie}
use Rattle.examine_board.proofs.Held.{looked_here, looked_there}
use Rattle.examine_board.proofs.exam.Exam.half.Goals as goal

pub returns-then-point-self-clause-lies : goal.returns-then-point-self-clause-lies
returns-then-point-self-clause-lies c =
    let i = c.self.inside in
    let h : Half = c.index-as_slice-point.result in
    let there =
    looked_here i.shared i.stored i.branch c.as_slice.result.now c.args.point h c.self.invariant.shared
    c.if-point-self.true c.as_slice.ensures c.index-as_slice-point.is in
    subst (λ (e : ExamState). MayLie e.terms (take c.args.point e.list) h) c.self.view_is
    (c.self.invariant.list.each c.args.point h there)

pub returns-else-point-self-clause-half : goal.returns-else-point-self-clause-half
returns-else-point-self-clause-half c =
    let i = c.self.inside in
    let h : Half = c.index-as_slice-point-else-point-self.result in
    let many : length (take i.shared i.stored ++ i.branch) ≡ length c.args.self.now.list =
    ap (λ (e : ExamState). length e.list) c.self.view_is in
    let there =
    looked_there i.shared i.stored i.branch c.as_slice-else-point-self.result.now c.args.point h c.self.invariant.shared
    (omega (arith, c.if-point-self.false)) (omega (arith, many, c.requires))
    c.as_slice-else-point-self.ensures.items c.index-as_slice-point-else-point-self.is in
    subst (λ (e : ExamState). slice_get e.list c.args.point ≡ Some h) c.self.view_is there

pub returns-else-point-self-clause-lies : goal.returns-else-point-self-clause-lies
returns-else-point-self-clause-lies c =
    let i = c.self.inside in
    let h : Half = c.index-as_slice-point-else-point-self.result in
    let many : length (take i.shared i.stored ++ i.branch) ≡ length c.args.self.now.list =
    ap (λ (e : ExamState). length e.list) c.self.view_is in
    let there =
    looked_there i.shared i.stored i.branch c.as_slice-else-point-self.result.now c.args.point h c.self.invariant.shared
    (omega (arith, c.if-point-self.false)) (omega (arith, many, c.requires))
    c.as_slice-else-point-self.ensures.items c.index-as_slice-point-else-point-self.is in
    subst (λ (e : ExamState). MayLie e.terms (take c.args.point e.list) h) c.self.view_is
    (c.self.invariant.list.each c.args.point h there)

pub returns-then-point-self-clause-few : goal.returns-then-point-self-clause-few
returns-then-point-self-clause-few c =
    omega (arith, c.if-point-self.true, c.self.invariant.shared, c.self.invariant.few)

pub returns-else-point-self-clause-few : goal.returns-else-point-self-clause-few
returns-else-point-self-clause-few c =
    let i = c.self.inside in
    let many : length (take i.shared i.stored ++ i.branch) ≡ length c.args.self.now.list =
    ap (λ (e : ExamState). length e.list) c.self.view_is in
    omega (
      arith,
      many,
      c.requires,
      length-append (take i.shared i.stored) i.branch,
      length-take-le i.shared i.stored c.self.invariant.shared,
      c.self.invariant.shared,
      c.self.invariant.few,
      c.as_slice-else-point-self.ensures.within,
    )
