use Rattle.std.proofs.Common.{◌≡◌, ◌↔◌, IsTrue, refl, sym, ap, subst, ◌∙◌}
use Rattle.std.proofs.lemmas.Bool.{true≢false, true_from_ne_false}
use Rattle.chess_model.specs.declared.variant.Variant.{Variant}
use Rattle.chess_model.specs.declared.variant.Variant.TheVariants.{Chess, Crazyhouse, Bughouse, Fischer}
use Rattle.chess_model.specs.Position.{Position}
use Rattle.chess_model.specs.Result.{HasAnswer}
use Rattle.variant_rules.specs.States.{CanMove}
use Rattle.variant_rules.proofs.StateLemmas.{answer-move, chess-answer, house-answer, pair-answer, fischer-answer, fischer-drop, chess-drop, house-drop, pair-shield, unshielded}
use Rattle.variant_rules.proofs.position.Position.has_answer.Goals as goal

pub returns-then-can_move : goal.returns-then-can_move
returns-then-can_move c =
    (λ e. answer-move c.args.self.now.variant c.args.self.now (c.can_move.ensures.0 c.if-can_move.true), λ h. refl)

pub returns-in-Chess : goal.returns-in-Chess
returns-in-Chess c =
    let p = c.args.self.now in
    let v : p.variant ≡ Chess = ap (λ (x : Position). x.variant) (sym c.self.view_is) ∙ c.in-Chess.is in
    let none : ¬ CanMove p = λ h. true≢false (sym (c.can_move.ensures.1 h) ∙ c.if-can_move.false) in
    let r = c.can_drop_any.result in
    let here : IsTrue r ↔ HasAnswer Chess p =
    (λ e. chess-answer p (c.can_drop_any.ensures.0 e), λ h. c.can_drop_any.ensures.1 (chess-drop p none h)) in
    subst (λ (x : Variant). IsTrue r ↔ HasAnswer x p) (sym v) here

pub returns-in-Crazyhouse : goal.returns-in-Crazyhouse
returns-in-Crazyhouse c =
    let p = c.args.self.now in
    let v : p.variant ≡ Crazyhouse = ap (λ (x : Position). x.variant) (sym c.self.view_is) ∙ c.in-Crazyhouse.is in
    let none : ¬ CanMove p = λ h. true≢false (sym (c.can_move.ensures.1 h) ∙ c.if-can_move.false) in
    let r = c.can_drop_any-in-Crazyhouse.result in
    let here : IsTrue r ↔ HasAnswer Crazyhouse p = (
      λ e. house-answer p (c.can_drop_any-in-Crazyhouse.ensures.0 e),
      λ h. c.can_drop_any-in-Crazyhouse.ensures.1 (house-drop p none h),
    ) in
    subst (λ (x : Variant). IsTrue r ↔ HasAnswer x p) (sym v) here

pub returns-in-Bughouse : goal.returns-in-Bughouse
returns-in-Bughouse c =
    let p = c.args.self.now in
    let v : p.variant ≡ Bughouse = ap (λ (x : Position). x.variant) (sym c.self.view_is) ∙ c.in-Bughouse.is in
    let none : ¬ CanMove p = λ h. true≢false (sym (c.can_move.ensures.1 h) ∙ c.if-can_move.false) in
    let r = c.can_be_shielded.result in
    let here : IsTrue r ↔ HasAnswer Bughouse p = (
      λ e. pair-answer p (c.can_be_shielded.ensures.some e),
      λ h. true_from_ne_false r (λ f. unshielded p (c.can_be_shielded.ensures.none f) (pair-shield p none h)),
    ) in
    subst (λ (x : Variant). IsTrue r ↔ HasAnswer x p) (sym v) here

pub returns-in-Fischer : goal.returns-in-Fischer
returns-in-Fischer c =
    let p = c.args.self.now in
    let number = c.in-Fischer.field-0 in
    let v : p.variant ≡ Fischer number = ap (λ (x : Position). x.variant) (sym c.self.view_is) ∙ c.in-Fischer.is in
    let none : ¬ CanMove p = λ h. true≢false (sym (c.can_move.ensures.1 h) ∙ c.if-can_move.false) in
    let r = c.can_drop_any-in-Fischer.result in
    let here : IsTrue r ↔ HasAnswer (Fischer number) p = (
      λ e. fischer-answer number p (c.can_drop_any-in-Fischer.ensures.0 e),
      λ h. c.can_drop_any-in-Fischer.ensures.1 (fischer-drop number p none h),
    ) in
    subst (λ (x : Variant). IsTrue r ↔ HasAnswer x p) (sym v) here
