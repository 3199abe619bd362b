use Rattle.std.proofs.Common.{refl, sym, subst, ◌∙◌}
use Rattle.std.proofs.lemmas.Bool.{true≢false, true_from_ne_false}
use Rattle.chess_model.specs.Position.{Position}
use Rattle.chess_model.specs.Allowed.{HasDrops}
use Rattle.variant_rules.proofs.StateLemmas.{five-kinds, no-variant}
use Rattle.variant_rules.proofs.position.Position.can_drop_any.Goals as goal

pub returns-then-not-has_drops : goal.returns-then-not-has_drops
returns-then-not-has_drops c = (
  λ e. absurd (true≢false (sym e)),
  λ h. absurd (no-variant c.args.self.now (λ v.
      true≢false (sym (c.has_drops.ensures.1 (subst (λ (x : Position). HasDrops x.variant) (sym c.self.view_is) v))
      ∙ c.if-not-has_drops.true))
      h),
)

pub returns-then-can_drop_kind : goal.returns-then-can_drop_kind
returns-then-can_drop_kind c = (λ e. c.can_drop_kind.ensures.some c.if-can_drop_kind.true, λ h. refl)

pub returns-then-can_drop_kind-2 : goal.returns-then-can_drop_kind-2
returns-then-can_drop_kind-2 c = (λ e. c.can_drop_kind-2.ensures.some c.if-can_drop_kind-2.true, λ h. refl)

pub returns-then-can_drop_kind-3 : goal.returns-then-can_drop_kind-3
returns-then-can_drop_kind-3 c = (λ e. c.can_drop_kind-3.ensures.some c.if-can_drop_kind-3.true, λ h. refl)

pub returns-then-can_drop_kind-4 : goal.returns-then-can_drop_kind-4
returns-then-can_drop_kind-4 c = (λ e. c.can_drop_kind-4.ensures.some c.if-can_drop_kind-4.true, λ h. refl)

pub returns : goal.returns
returns c = (
  λ e. c.can_drop_kind-5.ensures.some e,
  λ h. true_from_ne_false c.can_drop_kind-5.result (λ f.
      five-kinds c.args.self.now (c.can_drop_kind.ensures.none c.if-can_drop_kind.false)
      (c.can_drop_kind-2.ensures.none c.if-can_drop_kind-2.false)
      (c.can_drop_kind-3.ensures.none c.if-can_drop_kind-3.false)
      (c.can_drop_kind-4.ensures.none c.if-can_drop_kind-4.false)
      (c.can_drop_kind-5.ensures.none f) h),
)
