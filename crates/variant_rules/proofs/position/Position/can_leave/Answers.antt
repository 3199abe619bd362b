use Rattle.std.proofs.Common.{Option, sym, subst, ◌∙◌}
use Rattle.chess_model.specs.declared.man.Man.{Man}
use Rattle.chess_model.specs.Placement.{IsHeldBy}
use Rattle.variant_rules.proofs.StateLemmas.{none-from-other}
use Rattle.variant_rules.proofs.position.Position.can_leave.Goals as goal

pub returns-in-None-clause-none : goal.returns-in-None-clause-none
returns-in-None-clause-none c e =
    let p = c.args.self.now in
    none-from-other p c.args.a
    (λ h. subst (λ (man : Option Man). IsHeldBy p.to_move man) (sym c.man.ensures ∙ c.in-None.is) h)
