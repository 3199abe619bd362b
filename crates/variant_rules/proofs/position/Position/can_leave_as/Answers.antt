use Rattle.std.proofs.Common.{ℕ, Option, subst}
use Rattle.chess_model.specs.declared.man.Kind.{Kind}
use Rattle.chess_model.specs.declared.moves.Move.TheVariants.{Plain}
use Rattle.chess_model.specs.Allowed.{Allowed}
use Rattle.variant_rules.proofs.StateLemmas.{none-start, none-step, none-all}
use Rattle.variant_rules.proofs.position.Position.can_leave_as.Goals as goal

pub loop-b-init : goal.loop-b-init
loop-b-init c = record {
  none = none-start c.args.self.now c.args.k c.args.a c.goals-goals.result c.next_square-b.result c.goals-goals.ensures
      c.next_square-b.ensures.within c.next_square-b.ensures.first;
  here = c.next_square-b.ensures.found;
  within = c.next_square-b.ensures.within;
}

pub loop-b-preserved : goal.loop-b-preserved
loop-b-preserved c =
    let p = c.args.self.now in
    let a = c.args.a in
    let next = c.next_square-b-in-loop-b.ensures in
    let here : (promo : Option Kind) → ¬ Allowed p (Plain a c.square_of.result promo) =
    c.can_go.ensures.none c.if-can_go.false in
    record {
      none =
          none-step p c.args.k a c.goals-goals.result c.loop-b.b c.next_square-b-in-loop-b.result c.goals-goals.ensures
          next.within
          c.loop-b.invariant.none
          (subst (λ (t : ℕ). (promo : Option Kind) → ¬ Allowed p (Plain a t promo)) c.square_of.ensures here)
          next.first;
      here = next.found;
      within = next.within;
    }

pub returns-clause-none : goal.returns-clause-none
returns-clause-none c e = none-all c.args.self.now c.args.a c.loop-b.b c.loop-b-test.false c.loop-b.invariant.none
