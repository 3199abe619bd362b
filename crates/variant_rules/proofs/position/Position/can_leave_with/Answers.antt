use Rattle.std.proofs.Common.{Option, sym, refl, subst, ◌∙◌}
use Rattle.std.proofs.lemmas.Bool.{true≢false}
use Rattle.chess_model.specs.declared.man.Man.{Man}
use Rattle.chess_model.specs.Placement.{IsHeldBy, IsHeldAs}
use Rattle.variant_rules.proofs.StateLemmas.{none-from-other}
use Rattle.variant_rules.proofs.position.Position.can_leave_with.Goals as goal

pub returns-then-not-is_own-clause-none : goal.returns-then-not-is_own-clause-none
returns-then-not-is_own-clause-none c e =
    let p = c.args.self.now in
    none-from-other p c.args.a (λ h.
    true≢false (sym (c.is_own.ensures.1 (subst (λ (man : Option Man). IsHeldBy p.to_move man) c.requires.stands h))
    ∙ c.if-not-is_own.true))

pub can_leave_as-requires-clause-held : goal.can_leave_as-requires-clause-held
can_leave_as-requires-clause-held c =
    let p = c.args.self.now in
    subst (λ (man : Option Man). IsHeldAs p.to_move c.args.m.kind man) (sym c.requires.stands)
    (c.is_own.ensures.0 c.if-not-is_own.false, refl)
