use Rattle.std.proofs.Common.{◌≡◌, ◌↔◌, IsTrue, Bool, true, false, not, refl, sym, ap, subst, ◌∙◌}
use Rattle.std.proofs.lemmas.Bool.{true≢false}
use Rattle.chess_model.specs.Attacked.{IsKingSafe}
use Rattle.chess_model.specs.declared.variant.Variant.{Variant}
use Rattle.chess_model.specs.Position.{Position}
use Rattle.chess_model.specs.Result.{state_of, IsState}
use Rattle.chess_model.proofs.StatesTold.{state_told, state_is_told}
use Rattle.variant_rules.specs.States.{state_in}
use Rattle.variant_rules.proofs.StateLemmas.{state_unique}
use Rattle.variant_rules.proofs.position.Position.state.Goals as goal

twice : (x : Bool) → not (not x) ≡ x
twice true = refl
twice false = refl

safe-if : (p : Position) (in_check : Bool) → (in_check ≡ false → IsKingSafe p.men p.to_move)
    → (in_check ≡ true → ¬ IsKingSafe p.men p.to_move) →
    IsTrue (not in_check) ↔ IsKingSafe p.men p.to_move
safe-if p true safe check = (λ e. absurd (true≢false (sym e)), λ h. absurd (check refl h))
safe-if p false safe check = (λ e. safe refl, λ h. refl)

pub returns : goal.returns
returns c =
    let p = c.args.self.now in
    let v = ap (λ (x : Position). x.variant) c.self.view_is in
    let in_check = c.guard-guard.result.in_check in
    let guarded = c.guard-guard.ensures in
    let answered = c.has_answer-answered.result in
    let told_so : IsState p (state_of p.variant (not (not in_check)) answered) =
    state_is_told p.variant p (λ i. p.variant) (not in_check) answered (safe-if p in_check guarded.safe guarded.check)
    c.has_answer-answered.ensures in
    let here : IsState p (state_of p.variant in_check answered) =
    subst (λ (x : Bool). IsState p (state_of p.variant x answered)) (twice in_check) told_so in
    c.state_by.ensures ∙ ap (λ (x : Variant). state_of x in_check answered) v
    ∙ state_unique p _ (state_in p) here (state_told p)
