use Rattle.std.proofs.Common.{◌≢◌, ◌+◌, ◌≤◌, sym, ap, subst, ◌∙◌, length}
use Rattle.chess_model.specs.declared.variant.Variant.TheVariants.{Bughouse}
use Rattle.chess_model.specs.Placement.{Placement}
use Rattle.chess_model.specs.Census.{men_on, men_in}
use Rattle.variant_rules.proofs.position.Position.duplicate.Goals as goal

pub invariant_of-result : goal.invariant_of-result
invariant_of-result c =
    let b = c.self.inside in
    record {
      squares = ap length c.duplicate.ensures ∙ c.self.invariant.squares;
      men =
          subst (λ (P : Placement). b.variant ≢ Bughouse → men_on P + (men_in b.white + men_in b.black) ≤ 32)
          (sym c.duplicate.ensures)
          c.self.invariant.men;
    }
