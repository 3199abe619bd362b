use Rattle.std.proofs.Common.{◌↔◌, ◌<◌, IsTrue, Bool, true, false, not, rules, refl, sym, subst, None}
use Rattle.std.proofs.lemmas.Bool.{true≢false}
use Rattle.chess_model.specs.declared.man.Kind.TheVariants.{King}
use Rattle.chess_model.specs.declared.moves.Move.{Move}
use Rattle.chess_model.specs.declared.moves.Move.TheVariants.{Plain}
use Rattle.chess_model.specs.Placement.{man_at, IsHeldAs}
use Rattle.chess_model.specs.Reach.{Reaches}
use Rattle.chess_model.specs.Position.{Position}
use Rattle.chess_model.specs.Allowed.{IsSafeAfter}
use Rattle.variant_rules.proofs.MoveLemmas.{not_passing, king-apart}
use Rattle.variant_rules.proofs.KingLemmas.{king-safe}
use Rattle.variant_rules.proofs.position.Position.king_may_go.Goals as goal

pub returns-then-not-is_only_king : goal.returns-then-not-is_only_king
returns-then-not-is_only_king c =
    subst (λ (m : Move). IsTrue c.is_safe_after.result ↔ IsSafeAfter c.args.self.now m) c.going.ensures
    c.is_safe_after.ensures

pub returns : goal.returns
returns c =
    let b = c.self.inside in
    let p : Position = record {
      variant = b.variant;
      men = b.men;
      to_move = b.to_move;
      en_passant = b.en_passant;
      rights = b.rights;
      quiet = b.quiet;
      white = b.white;
      black = b.black;
    } in
    let la : c.args.a < 64 = search rules in
    let lb : c.args.b < 64 = search rules in
    let held : IsHeldAs p.to_move King (man_at p.men c.args.a) =
    subst (λ (x : Position). IsHeldAs x.to_move King (man_at x.men c.args.a)) (sym c.self.view_is) c.requires.held in
    let reached : Reaches p.men p.en_passant p.to_move King c.args.a c.args.b =
    subst (λ (x : Position). Reaches x.men x.en_passant x.to_move King c.args.a c.args.b) (sym c.self.view_is)
    c.requires.reached in
    let only = c.is_only_king.ensures c.if-not-is_only_king.false in
    let safe = king-safe p.variant p.men p.to_move c.args.a c.args.b c.self.invariant.squares la lb held reached.not_own
    (not_passing p.men p.to_move King c.args.a c.args.b held king-apart) only in
    let attacked = c.is_attacked_without.result in
    let here : IsTrue (not attacked) ↔ IsSafeAfter p (Plain c.args.a c.args.b None) = (
      λ e. safe.0 (λ h. off attacked e (c.is_attacked_without.ensures.1 h)),
      λ h. on attacked (λ e. safe.1 h (c.is_attacked_without.ensures.0 e)),
    ) in
    subst (λ (x : Position). IsTrue (not attacked) ↔ IsSafeAfter x (Plain c.args.a c.args.b None)) c.self.view_is here
  where
    off : (x : Bool) → IsTrue (not x) → IsTrue x → ⊥
    off true e f = true≢false (sym e)
    off false e f = true≢false (sym f)

    on : (x : Bool) → (¬ IsTrue x) → IsTrue (not x)
    on true out = absurd (out refl)
    on false out = refl
