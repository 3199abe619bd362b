use Rattle.std.proofs.Common.{◌≡◌, false, inl, inr, sym, ap, ◌∙◌, arith}
use Rattle.std.proofs.lemmas.Bool.{cases_eq}
use Rattle.chess_model.specs.Placement.{man_at}
use Rattle.chess_model.specs.Claims.{same_man}
use Rattle.variant_rules.proofs.SquareTests.{all_pass, not_all_pass}
use Rattle.variant_rules.proofs.sameness.is_same_placement.Goals as goal

pub returns-then-not-is_same_man : goal.returns-then-not-is_same_man
returns-then-not-is_same_man c =
    let P = c.args.p.now.men in
    let Q = c.args.q.now.men in
    let one = c.man.ensures ∙ ap (man_at P) c.square_of-square.ensures in
    let two = c.man-in-loop-n.ensures ∙ ap (man_at Q) c.square_of-square.ensures in
    let is =
    c.if-not-is_same_man.ensures ∙ ap (λ o. same_man o c.man-in-loop-n.result) one
    ∙ ap (same_man (man_at P c.loop-n.n)) two in
    let fails : same_man (man_at P c.loop-n.n) (man_at Q c.loop-n.n) ≡ false = sym is in
    sym (not_all_pass (λ k. same_man (man_at P k) (man_at Q k)) c.loop-n.n (omega (arith, c.loop-n-test.true)) fails)

pub loop-n-preserved : goal.loop-n-preserved
loop-n-preserved c = λ k less.
    let P = c.args.p.now.men in
    let Q = c.args.q.now.men in
    let one = c.man.ensures ∙ ap (man_at P) c.square_of-square.ensures in
    let two = c.man-in-loop-n.ensures ∙ ap (man_at Q) c.square_of-square.ensures in
    let is =
    c.if-not-is_same_man.ensures ∙ ap (λ o. same_man o c.man-in-loop-n.result) one
    ∙ ap (same_man (man_at P c.loop-n.n)) two in
    elim (cases_eq k c.loop-n.n) [
      | inl here ↦ ap (λ n. same_man (man_at P n) (man_at Q n)) here ∙ sym is
      | inr other ↦ c.loop-n.invariant k (omega (arith, less, other))
    ]

pub returns : goal.returns
returns c =
    let P = c.args.p.now.men in
    let Q = c.args.q.now.men in
    sym (all_pass (λ k. same_man (man_at P k) (man_at Q k))
    (λ k less. c.loop-n.invariant k (omega (arith, less, c.loop-n-test.false, c.loop-n.auto))))
