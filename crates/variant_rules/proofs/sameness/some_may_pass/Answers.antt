use Rattle.std.proofs.Common.{sym, ap, ◌∙◌, arith}
use Rattle.chess_model.specs.Claims.{may_pass}
use Rattle.variant_rules.proofs.SquareTests.{one_passes, none_passes}
use Rattle.variant_rules.proofs.sameness.some_may_pass.Goals as goal

pub returns-then-may_pass : goal.returns-then-may_pass
returns-then-may_pass c =
    let is = c.if-may_pass.ensures ∙ ap (may_pass c.args.p.now c.args.to) c.square_of.ensures in
    sym (one_passes (may_pass c.args.p.now c.args.to) c.loop-n.n (omega (arith, c.loop-n-test.true)) (sym is))

pub returns : goal.returns
returns c =
    sym (none_passes (may_pass c.args.p.now c.args.to)
    (λ k less. c.loop-n.invariant k (omega (arith, less, c.loop-n-test.false, c.loop-n.auto))))
