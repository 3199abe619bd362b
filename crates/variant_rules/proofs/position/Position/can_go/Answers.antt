use Rattle.std.proofs.Common.{Some, None, sym, ◌∙◌}
use Rattle.std.proofs.lemmas.Bool.{true≢false}
use Rattle.chess_model.specs.declared.man.Kind.TheVariants.{Knight, Bishop, Rook, Queen}
use Rattle.variant_rules.proofs.StateLemmas.{can-move, five-none}
use Rattle.variant_rules.proofs.position.Position.can_go.Goals as goal

pub returns-then-may_go-clause-some : goal.returns-then-may_go-clause-some
returns-then-may_go-clause-some c e =
    can-move c.args.self.now c.args.a c.args.b None (c.may_go.ensures.0 c.if-may_go.true)

pub returns-then-may_go-2-clause-some : goal.returns-then-may_go-2-clause-some
returns-then-may_go-2-clause-some c e =
    can-move c.args.self.now c.args.a c.args.b (Some Queen) (c.may_go-2.ensures.0 c.if-may_go-2.true)

pub returns-then-may_go-3-clause-some : goal.returns-then-may_go-3-clause-some
returns-then-may_go-3-clause-some c e =
    can-move c.args.self.now c.args.a c.args.b (Some Rook) (c.may_go-3.ensures.0 c.if-may_go-3.true)

pub returns-then-may_go-4-clause-some : goal.returns-then-may_go-4-clause-some
returns-then-may_go-4-clause-some c e =
    can-move c.args.self.now c.args.a c.args.b (Some Bishop) (c.may_go-4.ensures.0 c.if-may_go-4.true)

pub returns-clause-some : goal.returns-clause-some
returns-clause-some c e = can-move c.args.self.now c.args.a c.args.b (Some Knight) (c.may_go-5.ensures.0 e)

pub returns-clause-none : goal.returns-clause-none
returns-clause-none c e =
    five-none c.args.self.now c.args.a c.args.b
    (λ h. true≢false (sym (c.may_go.ensures.1 h) ∙ c.if-may_go.false))
    (λ h. true≢false (sym (c.may_go-2.ensures.1 h) ∙ c.if-may_go-2.false))
    (λ h. true≢false (sym (c.may_go-3.ensures.1 h) ∙ c.if-may_go-3.false))
    (λ h. true≢false (sym (c.may_go-4.ensures.1 h) ∙ c.if-may_go-4.false))
    (λ h. true≢false (sym (c.may_go-5.ensures.1 h) ∙ e))
