use Rattle.std.proofs.Common.{◌≡◌, ◌≢◌, ◌+◌, ◌≤◌, ap, sym, subst, ◌∙◌, refl, length}
use Rattle.std.specs.Prelude.{slice_set}
use Rattle.chess_model.specs.declared.variant.Variant.TheVariants.{Bughouse}
use Rattle.chess_model.specs.Placement.{Placement, opposite}
use Rattle.chess_model.specs.Census.{men_on, men_in}
use Rattle.chess_model.specs.Position.{Position}
use Rattle.variant_rules.proofs.UndoLemmas.{position_back}
use Rattle.variant_rules.proofs.position.Position.unmake.Goals as goal

pub returns : goal.returns
returns c p h =
    let b = c.self.inside in
    let u = c.args.u in
    let q = c.args.self.now in
    let new : Position = record {
      variant = b.variant;
      men = c.place-4.new.self;
      to_move = c.opposite-self-inside.result;
      en_passant = c.args.u.en_passant;
      rights = c.args.u.rights;
      quiet = c.args.u.quiet;
      white = c.args.u.white;
      black = c.args.u.black;
    } in
    let one = c.place.ensures ∙ ap (λ (x : Position). slice_set x.men u.first.on u.first.man) c.self.view_is in
    let two = c.place-2.ensures ∙ ap (λ (P : Placement). slice_set P u.second.on u.second.man) one in
    let three = c.place-3.ensures ∙ ap (λ (P : Placement). slice_set P u.third.on u.third.man) two in
    let four = c.place-4.ensures ∙ ap (λ (P : Placement). slice_set P u.fourth.on u.fourth.man) three in
    let side = c.opposite-self-inside.ensures ∙ ap (λ (x : Position). opposite x.to_move) c.self.view_is in
    let variant = ap (λ (x : Position). x.variant) c.self.view_is in
    position_back u p q new h variant four side refl refl refl refl refl

pub invariant_of-self : goal.invariant_of-self
invariant_of-self c =
    let b = c.self.inside in
    let u = c.args.u in
    let q = c.args.self.now in
    let new : Position = record {
      variant = b.variant;
      men = c.place-4.new.self;
      to_move = c.opposite-self-inside.result;
      en_passant = c.args.u.en_passant;
      rights = c.args.u.rights;
      quiet = c.args.u.quiet;
      white = c.args.u.white;
      black = c.args.u.black;
    } in
    let one = c.place.ensures ∙ ap (λ (x : Position). slice_set x.men u.first.on u.first.man) c.self.view_is in
    let two = c.place-2.ensures ∙ ap (λ (P : Placement). slice_set P u.second.on u.second.man) one in
    let three = c.place-3.ensures ∙ ap (λ (P : Placement). slice_set P u.third.on u.third.man) two in
    let four = c.place-4.ensures ∙ ap (λ (P : Placement). slice_set P u.fourth.on u.fourth.man) three in
    let side = c.opposite-self-inside.ensures ∙ ap (λ (x : Position). opposite x.to_move) c.self.view_is in
    let variant = ap (λ (x : Position). x.variant) c.self.view_is in
    let p = c.requires.0 in
    let h = c.requires.1 in
    let back : new ≡ p = position_back u p q new h variant four side refl refl refl refl refl in
    record {
      squares = ap (λ (x : Position). length x.men) back ∙ h.size;
      men =
          subst (λ (x : Position). x.variant ≢ Bughouse → men_on x.men + (men_in x.white + men_in x.black) ≤ 32)
          (sym back) h.few;
    }
