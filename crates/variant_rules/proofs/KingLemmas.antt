-- The safety of a king on the square to which it goes.
use Rattle.std.proofs.Common.{◌≡◌, ◌≢◌, ◌↔◌, ℕ, ◌<◌, inl, inr, length, Bool, false, refl, sym, ap, subst, ◌∙◌, Option, None}
use Rattle.std.specs.Prelude.{slice_set}
use Rattle.chess_model.specs.declared.man.Colour.{Colour}
use Rattle.chess_model.specs.declared.man.Kind.TheVariants.{Pawn, Knight, Bishop, Rook, Queen, King}
use Rattle.chess_model.specs.declared.man.Man.{Man}
use Rattle.chess_model.specs.declared.moves.Move.TheVariants.{Plain}
use Rattle.chess_model.specs.declared.variant.Variant.{Variant}
use Rattle.chess_model.specs.Placement.{Placement, man_at, opposite, IsHeldBy, IsHeldAs}
use Rattle.chess_model.specs.Attacked.{IsAttacked, IsKingSafe}
use Rattle.chess_model.specs.MoveList.{is_en_passant, place_after}
use Rattle.bitboard_core.specs.declared.sides.Side.{Side}
use Rattle.bitboard_core.specs.Sets.{IsSetOf, bit_if}
use Rattle.bitboard_core.specs.Strikers.{man_place, is_placed, AreMenOf}
use Rattle.variant_rules.specs.Checks.{IsOnlyKing}
use Rattle.variant_rules.proofs.CheckLemmas.{Eases, eased-attack, at-written, at-unwritten}
use Rattle.variant_rules.proofs.GuardLemmas.{at-target, at-origin, at-others, held_by, none-held_as, target}
use Rattle.variant_rules.proofs.LiftLemmas.{own-unplaced}
use Rattle.std.proofs.lemmas.Bool.{cases_eq}

module _ (P : Placement) (c : Colour) (a b : ℕ) (size : length P ≡ 64) (la : a < 64) (lb : b < 64) (ab : a ≢ b)
    (king : IsHeldAs c King (man_at P a)) where
  abbrev gone : Placement
  gone = slice_set P a None

  abbrev went : Placement
  went = slice_set (slice_set (slice_set P b None) a None) b (man_at P a)

  went-at : man_at went b ≡ man_at P a
  went-at = at-target P c a b (man_at P a) size la lb

  went-from : man_at went a ≡ None
  went-from = at-origin P c a b (man_at P a) size la lb ab

  went-others : (t : ℕ) → t ≢ a → t ≢ b → man_at went t ≡ man_at P t
  went-others t na nb = at-others P c a b (man_at P a) size la lb t na nb

  -- but for b, the placement after the move has the men of the one without the king
  alike : (t : ℕ) → t ≢ b → man_at went t ≡ man_at gone t
  alike t nb = elim (cases_eq t a) [
    | inl left ↦ ap (man_at went) left ∙ went-from ∙ sym (at-written P a None size la) ∙ ap (man_at gone) (sym left)
    | inr other ↦ went-others t other nb ∙ sym (at-unwritten P a t None other)
  ]

  before : Eases went gone (opposite c) b
  before = record {
    empty = λ t lt far free. sym (alike t far) ∙ free;
    men = λ x lx far held. sym (alike x far);
  }

  after : Eases gone went (opposite c) b
  after = record {
    empty = λ t lt far free. alike t far ∙ free;
    men = λ x lx far held. alike x far;
  }

  went-king : IsHeldAs c King (man_at went b)
  went-king = subst (λ (man : Option Man). IsHeldAs c King man) (sym went-at) king

  went-only : IsOnlyKing P c a → (s : ℕ) → s < 64 → IsHeldAs c King (man_at went s) → s ≡ b
  went-only only s ls held = elim (cases_eq s b) [
    | inl here ↦ here
    | inr nb ↦ elim (cases_eq s a) [
      | inl left ↦ absurd (none-held_as c King (man_at went s) (ap (man_at went) left ∙ went-from) held)
      | inr other ↦
          absurd
          (other (only.only s ls (subst (λ (man : Option Man). IsHeldAs c King man) (went-others s other nb) held)))
    ]
  ]

  went-safe : IsOnlyKing P c a → (¬ IsAttacked gone (opposite c) b) ↔ IsKingSafe went c
  went-safe only = (
    λ calm. record {
      safe = λ s ls check.
          let here : s ≡ b = went-only only s ls check.0 in
          calm (eased-attack went gone (opposite c) b lb before
          (subst (λ (t : ℕ). IsAttacked went (opposite c) t) here check.1));
    },
    λ safe attacked. safe.safe b lb (went-king, eased-attack gone went (opposite c) b lb after attacked),
  )

-- the only king is safe where it goes exactly if the square isn't attacked without it
pub king-safe : (v : Variant) (P : Placement) (c : Colour) (a b : ℕ) → length P ≡ 64 → a < 64 → b < 64
    → IsHeldAs c King (man_at P a) →
    ¬ IsHeldBy c (man_at P b) → is_en_passant P a b ≡ false → IsOnlyKing P c a →
    (¬ IsAttacked (slice_set P a None) (opposite c) b) ↔ IsKingSafe (place_after v P c (Plain a b None)) c
king-safe v P c a b size la lb king free usual only =
    let ab : a ≢ b = λ e. free (held_by c King (man_at P b) (subst (λ (t : ℕ). IsHeldAs c King (man_at P t)) e king)) in
    subst (λ (t : ℕ).
    (¬ IsAttacked (slice_set P a None) (opposite c) b)
    ↔ IsKingSafe (slice_set (slice_set (slice_set P t None) a None) b (man_at P a)) c)
    (sym (target P a b usual)) (went-safe P c a b size la lb ab king only)

-- the sets of a placement without a man

gone-set : (f : Option Man → Bool) (P : Placement) (a set : ℕ) → length P ≡ 64 → a < 64 → f None ≡ false
    → f (man_at P a) ≡ false →
    IsSetOf f P set → IsSetOf f (slice_set P a None) set
gone-set f P a set size la none out all = record {
  each = λ t lt. elim (cases_eq t a) [
    | inl same ↦
        all.each t lt ∙ ap (λ u. bit_if (f (man_at P u))) same ∙ ap bit_if (out ∙ sym none)
        ∙ ap (λ (o : Option Man). bit_if (f o)) (sym (at-written P a None size la))
        ∙ ap (λ u. bit_if (f (man_at (slice_set P a None) u))) (sym same)
    | inr other ↦ all.each t lt ∙ ap (λ (o : Option Man). bit_if (f o)) (sym (at-unwritten P a t None other))
  ];
}

-- the enemies are the same without an own man
pub gone-enemies : (P : Placement) (c : Colour) (a : ℕ) (side : Side) → length P ≡ 64 → a < 64
    → IsHeldBy c (man_at P a) →
    AreMenOf P (opposite c) side → AreMenOf (slice_set P a None) (opposite c) side
gone-enemies P c a side size la own all = record {
  pawns =
      gone-set (is_placed (man_place (opposite c) Pawn)) P a side.pawns size la refl
      (own-unplaced c Pawn (man_at P a) own) all.pawns;
  knights =
      gone-set (is_placed (man_place (opposite c) Knight)) P a side.knights size la refl
      (own-unplaced c Knight (man_at P a) own) all.knights;
  bishops =
      gone-set (is_placed (man_place (opposite c) Bishop)) P a side.bishops size la refl
      (own-unplaced c Bishop (man_at P a) own) all.bishops;
  rooks =
      gone-set (is_placed (man_place (opposite c) Rook)) P a side.rooks size la refl
      (own-unplaced c Rook (man_at P a) own) all.rooks;
  queens =
      gone-set (is_placed (man_place (opposite c) Queen)) P a side.queens size la refl
      (own-unplaced c Queen (man_at P a) own) all.queens;
  kings =
      gone-set (is_placed (man_place (opposite c) King)) P a side.kings size la refl
      (own-unplaced c King (man_at P a) own) all.kings;
}
