use Rattle.std.proofs.Common.{ℕ, sym, subst, ◌∙◌, below_more}
use Rattle.std.proofs.lemmas.Bool.{true≢false}
use Rattle.chess_model.specs.declared.moves.Move.TheVariants.{Drop}
use Rattle.chess_model.specs.Allowed.{Allowed}
use Rattle.variant_rules.proofs.StateLemmas.{can-drop}
use Rattle.variant_rules.proofs.position.Position.can_drop_kind.Goals as goal

pub returns-then-may_drop-clause-some : goal.returns-then-may_drop-clause-some
returns-then-may_drop-clause-some c e =
    can-drop c.args.self.now c.args.k c.square_of.result (c.may_drop.ensures.0 c.if-may_drop.true)

pub loop-to-preserved : goal.loop-to-preserved
loop-to-preserved c =
    let p = c.args.self.now in
    let k = c.args.k in
    let here : ¬ Allowed p (Drop k c.loop-to.to) =
    λ h.
    true≢false (sym (c.may_drop.ensures.1 (subst (λ (t : ℕ). Allowed p (Drop k t)) (sym c.square_of.ensures) h))
    ∙ c.if-may_drop.false) in
    below_more (λ (t : ℕ). ¬ Allowed p (Drop k t)) c.loop-to.to c.loop-to.invariant here
