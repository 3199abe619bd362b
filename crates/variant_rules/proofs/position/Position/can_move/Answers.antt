use Rattle.std.proofs.Common.{false, true, refl, sym, ◌∙◌}
use Rattle.std.proofs.lemmas.Bool.{true≢false, true_from_ne_false}
use Rattle.variant_rules.proofs.StateLemmas.{can-castle, none-on-board}
use Rattle.variant_rules.proofs.position.Position.can_move.Goals as goal

pub returns-then-can_leave_some : goal.returns-then-can_leave_some
returns-then-can_leave_some c = (λ e. c.can_leave_some.ensures.some c.if-can_leave_some.true, λ h. refl)

pub returns-then-may_castle : goal.returns-then-may_castle
returns-then-may_castle c =
    (λ e. can-castle c.args.self.now false (c.may_castle.ensures.0 c.if-may_castle.true), λ h. refl)

pub returns : goal.returns
returns c = (
  λ e. can-castle c.args.self.now true (c.may_castle-2.ensures.0 e),
  λ h. true_from_ne_false c.may_castle-2.result (λ f.
      none-on-board c.args.self.now (c.can_leave_some.ensures.none c.if-can_leave_some.false)
      (λ a. true≢false (sym (c.may_castle.ensures.1 a) ∙ c.if-may_castle.false))
      (λ a. true≢false (sym (c.may_castle-2.ensures.1 a) ∙ f)) h),
)
