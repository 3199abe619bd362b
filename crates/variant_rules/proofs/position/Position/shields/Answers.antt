use Rattle.std.proofs.Common.{sym, ◌∙◌}
use Rattle.std.proofs.lemmas.Bool.{true≢false}
use Rattle.chess_model.specs.declared.man.Kind.TheVariants.{Knight}
use Rattle.variant_rules.proofs.position.Position.shields.Goals as goal

pub returns-then-not-has_square : goal.returns-then-not-has_square
returns-then-not-has_square c = (
  λ e. absurd (true≢false (sym e)),
  λ h. absurd (c.requires.shields Knight c.args.s c.has_square.ensures.within
      (λ t. true≢false (sym (c.has_square.ensures.value.1 t) ∙ c.if-not-has_square.true)) h.free h.shielded),
)
