use Rattle.std.proofs.Common.{sym, ◌∙◌}
use Rattle.std.proofs.lemmas.Bool.{true≢false}
use Rattle.variant_rules.proofs.position.Position.may_drop.Goals as goal

pub returns-then-not-has_square : goal.returns-then-not-has_square
returns-then-not-has_square c = (
  λ e. absurd (true≢false (sym e)),
  λ h. absurd (c.requires.shields c.args.kind c.args.to c.has_square.ensures.within
      (λ t. true≢false (sym (c.has_square.ensures.value.1 t) ∙ c.if-not-has_square.true)) h.move.free h.safe),
)
