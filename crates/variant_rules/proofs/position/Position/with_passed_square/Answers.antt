use Rattle.std.proofs.Common.{inl, inr, sym, ap, ◌∙◌}
use Rattle.chess_model.specs.Position.{Position}
use Rattle.variant_rules.proofs.position.Position.with_passed_square.Goals as goal
use Rattle.std.proofs.lemmas.Option.{none-some, same_Some}

pub returns-in-Some : goal.returns-in-Some
returns-in-Some c t lt out =
    let all = c.with_square.ensures t lt in
    let here = ap (λ (x : Position). x.en_passant) (sym c.self.view_is) ∙ c.in-Some.is in (
      λ h. out (all.1 (inl h)),
      λ e. out (all.1 (inr (sym (same_Some _ _ (sym here ∙ e))))),
    )

pub returns-in-None : goal.returns-in-None
returns-in-None c t lt out =
    let here = ap (λ (x : Position). x.en_passant) (sym c.self.view_is) ∙ c.in-None.is in
    (out, λ e. none-some t (sym here ∙ e))
