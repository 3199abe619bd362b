use Rattle.std.proofs.Common.{ℕ, subst, below_more}
use Rattle.variant_rules.specs.States.{NoneFrom}
use Rattle.variant_rules.proofs.position.Position.can_leave_some.Goals as goal

pub loop-a-preserved : goal.loop-a-preserved
loop-a-preserved c =
    let here : NoneFrom c.args.self.now c.loop-a.a =
    subst (λ (t : ℕ). NoneFrom c.args.self.now t) c.square_of.ensures (c.can_leave.ensures.none c.if-can_leave.false) in
    below_more _ _ c.loop-a.invariant here
