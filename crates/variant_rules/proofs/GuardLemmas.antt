-- Which half-moves leave the own king safe.
use Rattle.std.proofs.Common.{arith, ◌≡◌, ◌≢◌, ℕ, ◌<◌, inl, inr, false, length, refl, sym, ap, subst, ◌∙◌, Option, Some, None}
use Rattle.std.specs.Prelude.{slice_set}
use Rattle.std.proofs.lemmas.List.{length-set, get_or-set_other, get_or-set_same}
use Rattle.chess_model.specs.declared.man.Colour.{Colour}
use Rattle.chess_model.specs.declared.man.Kind.{Kind}
use Rattle.chess_model.specs.declared.man.Kind.TheVariants.{Pawn, Knight, Bishop, Rook, Queen, King}
use Rattle.chess_model.specs.declared.man.Man.{Man}
use Rattle.chess_model.specs.declared.moves.Move.TheVariants.{Plain, Drop}
use Rattle.chess_model.specs.declared.variant.Variant.{Variant}
use Rattle.chess_model.specs.Placement.{Placement, man_at, opposite, unpromoted, IsHeldBy, IsHeldAs}
use Rattle.chess_model.specs.Attacked.{IsKingSafe}
use Rattle.chess_model.specs.MoveList.{is_en_passant, taking_square, landed, place_after}
use Rattle.chess_model.specs.Position.{Position, hand_of_side}
use Rattle.chess_model.specs.Allowed.{IsPromotion, HasPromotion, GoesAs}
use Rattle.bitboard_core.specs.Sets.{Has}
use Rattle.variant_rules.specs.declared.guard.Guard.{Guard}
use Rattle.variant_rules.specs.Checks.{IsBare, IsUnanswered, AreWatched}
use Rattle.variant_rules.specs.Listing.{IsUnguarded, IsGuard}
use Rattle.variant_rules.proofs.CheckLemmas.{Eases, eased-attack, held-both, none-held, at-written, at-unwritten}
use Rattle.std.proofs.lemmas.Bool.{cases_eq}
use Rattle.chess_model.proofs.SoundPositions.{king_not_held}

-- a plain move

landed-own : (c : Colour) (man : Option Man) (promo : Option Kind) → IsHeldBy c man → IsHeldBy c (landed man promo)
landed-own c man None h = h
landed-own c None (Some k) h = absurd h
landed-own c (Some m) (Some k) h = h

landed-king : (c : Colour) (man : Option Man) (promo : Option Kind) → ¬ IsHeldAs c King man → promo ≢ Some King
    → ¬ IsHeldAs c King (landed man promo)
landed-king c man None other plain h = other h
landed-king c None (Some k) other plain h = h
landed-king c (Some m) (Some k) other plain h = plain (ap Some h.1)

pub held_by : (c : Colour) (k : Kind) (man : Option Man) → IsHeldAs c k man → IsHeldBy c man
held_by c k None h = h
held_by c k (Some m) h = h.0

pub none-held_as : (c : Colour) (k : Kind) (man : Option Man) → man ≡ None → ¬ IsHeldAs c k man
none-held_as c k man e h = subst (λ (x : Option Man). IsHeldAs c k x) e h

module _ (P : Placement) (c : Colour) (a b : ℕ) (L : Option Man) (size : length P ≡ 64) (la : a < 64)
    (lb : b < 64) where
  abbrev moved : Placement
  moved = slice_set (slice_set (slice_set P b None) a None) b L

  pub at-target : man_at moved b ≡ L
  at-target =
      get_or-set_same (slice_set (slice_set P b None) a None) b L None
      (omega (arith, lb, size, length-set (slice_set P b None) a None, length-set P b None))

  pub at-origin : a ≢ b → man_at moved a ≡ None
  at-origin apart =
      get_or-set_other (slice_set (slice_set P b None) a None) b a L None apart
      ∙ get_or-set_same (slice_set P b None) a None None (omega (arith, la, size, length-set P b None))

  pub at-others : (t : ℕ) → t ≢ a → t ≢ b → man_at moved t ≡ man_at P t
  at-others t na nb =
      get_or-set_other (slice_set (slice_set P b None) a None) b t L None nb
      ∙ get_or-set_other (slice_set P b None) a t None None na
      ∙ get_or-set_other P b t None None nb

  -- after the move no man sees more of a king than without the man on a
  moved-bare : (s : ℕ) → IsHeldBy c L → Eases moved (slice_set P a None) (opposite c) s
  moved-bare s own = record {
    empty = λ t lt far free. elim (cases_eq t b) [
      | inl here ↦ absurd (none-held c L (sym at-target ∙ ap (man_at moved) (sym here) ∙ free) own)
      | inr apart ↦ elim (cases_eq t a) [
        | inl left ↦ ap (man_at (slice_set P a None)) left ∙ at-written P a None size la
        | inr other ↦ at-unwritten P a t None other ∙ sym (at-others t other apart) ∙ free
      ]
    ];
    men = λ x lx far held. elim (cases_eq x b) [
      | inl here ↦
          absurd (held-both c L own
          (subst (λ (man : Option Man). IsHeldBy (opposite c) man) (ap (man_at moved) here ∙ at-target) held))
      | inr apart ↦ elim (cases_eq x a) [
        | inl left ↦
            absurd
            (none-held (opposite c) (man_at moved x) (ap (man_at moved) left ∙ at-origin (λ e. apart (left ∙ e))) held)
        | inr other ↦ at-unwritten P a x None other ∙ sym (at-others x other apart)
      ]
    ];
  }

  -- and none sees less of it than with the man on both squares
  moved-past : (s : ℕ) → a ≢ b → IsHeldBy c L → IsHeldBy c (man_at P a) → Eases (slice_set P b L) moved (opposite c) s
  moved-past s ab own from = record {
    empty = λ t lt far free. elim (cases_eq t b) [
      | inl here ↦
          absurd (none-held c L (sym (at-written P b L size lb) ∙ ap (man_at (slice_set P b L)) (sym here) ∙ free) own)
      | inr apart ↦ elim (cases_eq t a) [
        | inl left ↦ ap (man_at moved) left ∙ at-origin ab
        | inr other ↦ at-others t other apart ∙ sym (at-unwritten P b t L apart) ∙ free
      ]
    ];
    men = λ x lx far held. elim (cases_eq x b) [
      | inl here ↦ absurd (held-both c L own
          (subst (λ (man : Option Man). IsHeldBy (opposite c) man)
          (ap (man_at (slice_set P b L)) here ∙ at-written P b L size lb) held))
      | inr apart ↦ elim (cases_eq x a) [
        | inl left ↦ absurd (held-both c (man_at P a) from
            (subst (λ (man : Option Man). IsHeldBy (opposite c) man) (at-unwritten P b x L apart ∙ ap (man_at P) left)
            held))
        | inr other ↦ at-others x other apart ∙ sym (at-unwritten P b x L apart)
      ]
    ];
  }

  king-before : (s : ℕ) → ¬ IsHeldAs c King L → IsHeldAs c King (man_at moved s) → IsHeldAs c King (man_at P s)
  king-before s plain held = elim (cases_eq s b) [
    | inl here ↦
        absurd (plain (subst (λ (man : Option Man). IsHeldAs c King man) (ap (man_at moved) here ∙ at-target) held))
    | inr apart ↦ elim (cases_eq s a) [
      | inl left ↦
          absurd
          (none-held_as c King (man_at moved s) (ap (man_at moved) left ∙ at-origin (λ e. apart (left ∙ e))) held)
      | inr other ↦ subst (λ (man : Option Man). IsHeldAs c King man) (at-others s other apart) held
    ]
  ]

  king-after : (s : ℕ) → s ≢ a → s ≢ b → IsHeldAs c King (man_at P s) → IsHeldAs c King (man_at moved s)
  king-after s na nb held = subst (λ (man : Option Man). IsHeldAs c King man) (sym (at-others s na nb)) held

pub target : (P : Placement) (a b : ℕ) → is_en_passant P a b ≡ false → taking_square P a b ≡ b
target P a b e = rw e refl

pub plain-safe : (v : Variant) (P : Placement) (c : Colour) (a b : ℕ) (promo : Option Kind) (guard : Guard)
    → length P ≡ 64 → a < 64 → b < 64 →
    is_en_passant P a b ≡ false → IsHeldBy c (man_at P a) → promo ≢ Some King → AreWatched P c guard
    → ¬ Has guard.from a →
    IsKingSafe (place_after v P c (Plain a b promo)) c
plain-safe v P c a b promo guard size la lb usual own plain watched out =
    let L : Option Man = landed (man_at P a) promo in
    let Q : Placement = slice_set (slice_set (slice_set P b None) a None) b L in
    let landed : IsHeldBy c L = landed-own c (man_at P a) promo own in
    let not_king : ¬ IsHeldAs c King L = landed-king c (man_at P a) promo (λ h. out (watched.kings a la h)) plain in
    let after : IsKingSafe Q c = record {
      safe = λ s ls check.
          let king : IsHeldAs c King (man_at P s) = king-before P c a b L size la lb s not_king check.0 in
          let bare : IsBare P c s a =
          eased-attack Q (slice_set P a None) (opposite c) s ls (moved-bare P c a b L size la lb s landed) check.1 in
          out ((watched.pinned s ls king).each a la own bare);
    } in
    subst (λ (t : ℕ). IsKingSafe (slice_set (slice_set (slice_set P t None) a None) b L) c) (sym (target P a b usual))
    after

pub plain-unsafe : (v : Variant) (P : Placement) (c : Colour) (a b : ℕ) (promo : Option Kind) (guard : Guard)
    → length P ≡ 64 → a < 64 → b < 64 →
    is_en_passant P a b ≡ false → IsHeldBy c (man_at P a) → ¬ IsHeldAs c King (man_at P a) → ¬ IsHeldBy c (man_at P b)
    → AreWatched P c guard →
    ¬ Has guard.answers b → ¬ IsKingSafe (place_after v P c (Plain a b promo)) c
plain-unsafe v P c a b promo guard size la lb usual own man free watched out safe =
    let L : Option Man = landed (man_at P a) promo in
    let Q : Placement = slice_set (slice_set (slice_set P b None) a None) b L in
    let landed : IsHeldBy c L = landed-own c (man_at P a) promo own in
    let ab : a ≢ b = λ e. free (subst (λ (t : ℕ). IsHeldBy c (man_at P t)) e own) in
    let left = watched.answers b L lb out landed in
    let s : ℕ = left.0 in
    let king : IsUnanswered P c b L s = left.1 in
    let na : s ≢ a = λ e. man (subst (λ (t : ℕ). IsHeldAs c King (man_at P t)) e king.held) in
    let nb : s ≢ b = λ e.
    free (held_by c King (man_at P b) (subst (λ (t : ℕ). IsHeldAs c King (man_at P t)) e king.held)) in
    let after : IsKingSafe Q c =
    subst (λ (t : ℕ). IsKingSafe (slice_set (slice_set (slice_set P t None) a None) b L) c) (target P a b usual) safe in
    after.safe s king.square (
      king-after P c a b L size la lb s na nb king.held,
      eased-attack (slice_set P b L) Q (opposite c) s king.square (moved-past P c a b L size la lb s ab landed own)
          king.attacked,
    )

-- a drop

pub drop-safe : (v : Variant) (P : Placement) (c : Colour) (k : Kind) (to : ℕ) → length P ≡ 64 → to < 64
    → man_at P to ≡ None → k ≢ King →
    IsKingSafe P c → IsKingSafe (place_after v P c (Drop k to)) c
drop-safe v P c k to size lt free plain safe =
    let Q : Placement = slice_set P to (unpromoted c k) in
    let here : man_at Q to ≡ unpromoted c k = at-written P to (unpromoted c k) size lt in
    record {
      safe = λ s ls check.
          let king : IsHeldAs c King (man_at P s) = elim (cases_eq s to) [
            | inl same ↦
                let h : IsHeldAs c King (unpromoted c k) =
                subst (λ (man : Option Man). IsHeldAs c King man) (ap (man_at Q) same ∙ here) check.0 in
                absurd (plain h.1)
            | inr other ↦
                subst (λ (man : Option Man). IsHeldAs c King man) (at-unwritten P to s (unpromoted c k) other) check.0
          ] in
          let before : Eases Q P (opposite c) s = record {
            empty = λ t lt2 far empty. elim (cases_eq t to) [
              | inl same ↦ ap (man_at P) same ∙ free
              | inr other ↦ sym (at-unwritten P to t (unpromoted c k) other) ∙ empty
            ];
            men = λ x lx far held. elim (cases_eq x to) [
              | inl same ↦ absurd (held-both c (unpromoted c k) refl
                  (subst (λ (man : Option Man). IsHeldBy (opposite c) man) (ap (man_at Q) same ∙ here) held))
              | inr other ↦ sym (at-unwritten P to x (unpromoted c k) other)
            ];
          } in
          safe.safe s ls (king, eased-attack Q P (opposite c) s ls before check.1);
    }

pub drop-unsafe : (v : Variant) (P : Placement) (c : Colour) (k : Kind) (to : ℕ) (guard : Guard) → length P ≡ 64
    → to < 64 → man_at P to ≡ None →
    AreWatched P c guard → ¬ Has guard.answers to → ¬ IsKingSafe (place_after v P c (Drop k to)) c
drop-unsafe v P c k to guard size lt free watched out safe =
    let left = watched.answers to (unpromoted c k) lt out refl in
    let s : ℕ = left.0 in
    let king : IsUnanswered P c to (unpromoted c k) s = left.1 in
    let other : s ≢ to = λ e. none-held_as c King (man_at P s) (ap (man_at P) e ∙ free) king.held in
    safe.safe s king.square (
      subst (λ (man : Option Man). IsHeldAs c King man) (sym (at-unwritten P to s (unpromoted c k) other)) king.held,
      king.attacked,
    )

-- the half-moves of a position

may_become-plain : (promo : Option Kind) → IsPromotion promo → promo ≢ Some King
may_become-plain None h e = h
may_become-plain (Some Pawn) h e = h
may_become-plain (Some Knight) h e = cc
may_become-plain (Some Bishop) h e = cc
may_become-plain (Some Rook) h e = cc
may_become-plain (Some Queen) h e = cc
may_become-plain (Some King) h e = h

none-plain : (promo : Option Kind) → promo ≡ None → promo ≢ Some King
none-plain promo h e = cc

never-king : (c : Colour) (k : Kind) (b : ℕ) (promo : Option Kind) → HasPromotion c k b promo → promo ≢ Some King
never-king c Pawn b promo (inl h) = may_become-plain promo h.1
never-king c Pawn b promo (inr h) = none-plain promo h.1
never-king c Knight b promo h = none-plain promo h
never-king c Bishop b promo h = none-plain promo h
never-king c Rook b promo h = none-plain promo h
never-king c Queen b promo h = none-plain promo h
never-king c King b promo h = none-plain promo h

goes-held : (p : Position) (a b : ℕ) (promo : Option Kind) (man : Option Man) → GoesAs p a b promo man
    → IsHeldBy p.to_move man
goes-held p a b promo None h = absurd h
goes-held p a b promo (Some m) h = h.0

goes-plain : (p : Position) (a b : ℕ) (promo : Option Kind) (man : Option Man) → GoesAs p a b promo man
    → promo ≢ Some King
goes-plain p a b promo None h = absurd h
goes-plain p a b promo (Some m) h = never-king p.to_move m.kind b promo h.2

unguarded : (p : Position) (a : ℕ) (guard : Guard) → length p.men ≡ 64 → AreWatched p.men p.to_move guard
    → ¬ Has guard.from a →
    IsUnguarded p a
unguarded p a guard size watched out = record {
  safe = λ b promo move usual.
      plain-safe p.variant p.men p.to_move a b promo guard size move.from move.to usual
      (goes-held p a b promo (man_at p.men a) move.goes) (goes-plain p a b promo (man_at p.men a) move.goes) watched
      out;
}

pub guard-is : (p : Position) (guard : Guard) → length p.men ≡ 64 → AreWatched p.men p.to_move guard → IsGuard p guard
guard-is p guard size watched = record {
  safe = watched.safe;
  check = watched.check;
  from = λ a la out. unguarded p a guard size watched out;
  drops = λ calm k to move.
      drop-safe p.variant p.men p.to_move k to size move.square move.free
      (king_not_held (hand_of_side p p.to_move) k move.held) (watched.safe calm);
  answers = λ a b promo out move man free usual.
      plain-unsafe p.variant p.men p.to_move a b promo guard size move.from move.to usual
      (goes-held p a b promo (man_at p.men a) move.goes) man free watched out;
  shields = λ k to lt out free. drop-unsafe p.variant p.men p.to_move k to guard size lt free watched out;
}
