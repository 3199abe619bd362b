-- Sets of a placement after one square has changed.
use Rattle.std.proofs.Common.{arith, ◌≡◌, ◌≢◌, ◌↔◌, ℕ, ◌-◌, ◌*◌, ◌%◌, ◌^◌, ◌<◌, ◌⊎◌, Bool, true, false, nat_eq, is_some, length, refl, sym, ap, subst, ◌∙◌, inl, inr, Option, Some, None, List, w64, replicate}
use Rattle.std.specs.Prelude.{slice_set, slice_index}
use Rattle.std.specs.Int.{bit_at, bit_not}
use Rattle.std.specs.Int.RustNames.{bit_or}
use lib.Bits.{bit_and}
use Rattle.std.proofs.lemmas.Bool.{cases_order, eqb-true, eq-eqb, true≢false}
use Rattle.std.proofs.lemmas.Bool.Decides.{eqb_tells}
use Rattle.std.proofs.lemmas.List.{length-set, get_or-set_other, get_or-set_same, get_or-replicate}
use Rattle.std.proofs.lemmas.Nat.Bits.{bit_at_set_same, bit_at_set_other, bit_at_clear_same, bit_at_clear_other, bit_at-zero, bit_at_not, bit_at-lt}
use Rattle.chess_model.specs.declared.man.Colour.{Colour}
use Rattle.chess_model.specs.declared.man.Kind.{Kind}
use Rattle.chess_model.specs.declared.man.Kind.TheVariants.{Pawn, Knight, Bishop, Rook, Queen, King}
use Rattle.chess_model.specs.declared.man.Man.{Man}
use Rattle.chess_model.specs.Men.{same_colour, is_held_by}
use Rattle.chess_model.specs.Placement.{Placement, man_at, opposite, IsHeldBy}
use Rattle.chess_model.specs.Reach.{IsStep, Clear, Goes}
use Rattle.bitboard_core.specs.declared.bits.Bits.TheInside.{Inside}
use Rattle.bitboard_core.specs.declared.sides.Side.{Side}
use Rattle.bitboard_core.specs.BitsFields.{AreKept}
use Rattle.bitboard_core.specs.Sets.{Has, IsSetOf, bit_if}
use Rattle.bitboard_core.specs.Strikers.{man_place, is_placed, is_promoted, AreMenOf, IsStruckSet, IsPushSet, IsReachSet}
use Rattle.bitboard_core.proofs.SetLemmas.{bit_if-true, bit_if-of_true, Has-or, Has-or_left, Has-or_right, Has-and, Has-and_both}
use Rattle.bitboard_core.proofs.StrikerLemmas.{same_place}
use Rattle.chess_model.proofs.TestsDecide.{same_colour-self}
use Rattle.chess_model.proofs.StandsAfter.{same_colour-eq}
use Rattle.chess_model.proofs.Captures.{forward-near}
use Rattle.chess_model.proofs.ChessLaws.{Clear-near}

-- the square that was written, and the others
written : (P : Placement) (s t : ℕ) (man : Option Man) → s < length P
    → (t ≡ s → man_at (slice_set P s man) t ≡ man) × (t ≢ s → man_at (slice_set P s man) t ≡ man_at P t)
written P s t man lt = (
  λ e. ap (man_at (slice_set P s man)) e ∙ get_or-set_same P s man None lt,
  λ other. get_or-set_other P s t man None other,
)

module _ (f : Option Man → Bool) (P : Placement) (s : ℕ) (man : Option Man) (size : length P ≡ 64) (ls : s < 64) where
  at_write : (set new : ℕ) → bit_at new s ≡ bit_if (f man) → ((t : ℕ) → t < 64 → t ≢ s → bit_at new t ≡ bit_at set t) →
      IsSetOf f P set → IsSetOf f (slice_set P s man) new
  at_write set new here others all = record {
    each = λ t lt.
        let w = written P s t man (omega (arith, size, ls)) in
        elim (cases_order t s) [
          | inl same ↦ ap (bit_at new) same ∙ here ∙ ap (λ x. bit_if (f x)) (sym (w.0 same))
          | inr apart ↦
              let other : t ≢ s = elim apart [ inl l ↦ omega (arith, l) | inr l ↦ omega (arith, l) ] in
              others t lt other ∙ all.each t lt ∙ ap (λ x. bit_if (f x)) (sym (w.1 other))
        ];
  }

  pub set_bit : (set : ℕ) → f man ≡ true → IsSetOf f P set
      → IsSetOf f (slice_set P s man) (bit_or set (1 * 2 ^ s % 2 ^ 64))
  set_bit set e all =
      at_write set (bit_or set (1 * 2 ^ s % 2 ^ 64)) (bit_at_set_same w64 set s ls ∙ sym (bit_if-of_true (f man) e))
      (λ t lt other. bit_at_set_other w64 set s ls t other) all

  pub clear_bit : (set : ℕ) → bit_if (f man) ≡ 0 → IsSetOf f P set
      → IsSetOf f (slice_set P s man) (bit_and set (bit_not w64 (1 * 2 ^ s % 2 ^ 64)))
  clear_bit set e all =
      at_write set (bit_and set (bit_not w64 (1 * 2 ^ s % 2 ^ 64))) (bit_at_clear_same w64 set s ls ∙ sym e)
      (λ t lt other. bit_at_clear_other w64 set s ls t lt other) all

  pub keep_bit : (set : ℕ) → bit_if (f (man_at P s)) ≡ bit_if (f man) → IsSetOf f P set
      → IsSetOf f (slice_set P s man) set
  keep_bit set e all = at_write set set (all.each s ls ∙ e) (λ t lt other. refl) all

bit_if-eqb : (i j : ℕ) → i ≢ j → bit_if (nat_eq i j) ≡ 0
bit_if-eqb i j apart = elim (eqb_tells i j) [ inl h ↦ absurd (apart h.1) | inr h ↦ ap bit_if h.0 ]

bit_of : (f : Option Man → Bool) (P : Placement) (s : ℕ) (man : Option Man) → man_at P s ≡ man
    → bit_if (f (man_at P s)) ≡ bit_if (f man)
bit_of f P s man e = ap (λ x. bit_if (f x)) e

-- the twelve sets after one of them was written
men_written : (P : Placement) (men : List ℕ) (Q : Placement) (place x : ℕ) → length men ≡ 12 → place < 12 →
    ((i : ℕ) → i < 12 → IsSetOf (is_placed i) P (slice_index men i)) → IsSetOf (is_placed place) Q x →
    ((i : ℕ) → i < 12 → i ≢ place → IsSetOf (is_placed i) Q (slice_index men i)) →
    (i : ℕ) → i < 12 → IsSetOf (is_placed i) Q (slice_index (slice_set men place x) i)
men_written P men Q place x size lp all here others i li = elim (cases_order i place) [
  | inl same ↦
      let e : slice_index (slice_set men place x) i ≡ x =
      ap (slice_index (slice_set men place x)) same ∙ get_or-set_same men place x 0 (omega (arith, size, lp)) in
      let h : IsSetOf (is_placed i) Q x = subst (λ (j : ℕ). IsSetOf (is_placed j) Q x) (sym same) here in
      subst (λ (set : ℕ). IsSetOf (is_placed i) Q set) (sym e) h
  | inr apart ↦
      let other : i ≢ place = elim apart [ inl l ↦ omega (arith, l) | inr l ↦ omega (arith, l) ] in
      let e : slice_index (slice_set men place x) i ≡ slice_index men i = get_or-set_other men place i x 0 other in
      subst (λ (set : ℕ). IsSetOf (is_placed i) Q set) (sym e) (others i li other)
]

bit_at_place : (m : Man) (place i : ℕ) → place ≡ man_place m.colour m.kind → i ≢ place
    → bit_if (is_placed i (Some m)) ≡ 0
bit_at_place m place i e other = bit_if-eqb (man_place m.colour m.kind) i (λ h. other (sym (e ∙ h)))

-- a man comes to an empty square
pub kept_put : (b : Inside) (s place : ℕ) (m : Man) (promoted : ℕ) → AreKept b → s < 64 → man_at b.squares s ≡ None
    → place < 12 →
    place ≡ man_place m.colour m.kind → IsSetOf is_promoted (slice_set b.squares s (Some m)) promoted →
    AreKept (record {
      squares = slice_set b.squares s (Some m);
      men = slice_set b.men place (bit_or (slice_index b.men place) (1 * 2 ^ s % 2 ^ 64));
      promoted = promoted;
      occupied = bit_or b.occupied (1 * 2 ^ s % 2 ^ 64);
    })
kept_put b s place m promoted h ls free lp e marks = record {
  squares = length-set b.squares s (Some m) ∙ h.squares;
  places = length-set b.men place (bit_or (slice_index b.men place) (1 * 2 ^ s % 2 ^ 64)) ∙ h.places;
  men =
      men_written b.squares b.men (slice_set b.squares s (Some m)) place
      (bit_or (slice_index b.men place) (1 * 2 ^ s % 2 ^ 64)) h.places lp h.men
      (set_bit (is_placed place) b.squares s (Some m) h.squares ls (slice_index b.men place)
      (eq-eqb (man_place m.colour m.kind) place (sym e)) (h.men place lp))
      (λ i li other. keep_bit (is_placed i) b.squares s (Some m) h.squares ls (slice_index b.men i)
      (bit_of (is_placed i) b.squares s None free ∙ sym (bit_at_place m place i e other)) (h.men i li));
  promoted = marks;
  occupied = set_bit is_some b.squares s (Some m) h.squares ls b.occupied refl h.occupied;
}

pub marked_put : (P : Placement) (s : ℕ) (m : Man) (set : ℕ) → length P ≡ 64 → s < 64 → m.promoted ≡ true
    → IsSetOf is_promoted P set →
    IsSetOf is_promoted (slice_set P s (Some m)) (bit_or set (1 * 2 ^ s % 2 ^ 64))
marked_put P s m set size ls e all = set_bit is_promoted P s (Some m) size ls set e all

pub unmarked_put : (P : Placement) (s : ℕ) (m : Man) (set : ℕ) → length P ≡ 64 → s < 64 → man_at P s ≡ None
    → m.promoted ≡ false →
    IsSetOf is_promoted P set → IsSetOf is_promoted (slice_set P s (Some m)) set
unmarked_put P s m set size ls free e all =
    keep_bit is_promoted P s (Some m) size ls set (bit_of is_promoted P s None free ∙ sym (ap bit_if e)) all

-- a man is taken off its square
pub kept_lift : (b : Inside) (s place : ℕ) (m : Man) → AreKept b → s < 64 → man_at b.squares s ≡ Some m → place < 12 →
    place ≡ man_place m.colour m.kind →
    AreKept (record {
      squares = slice_set b.squares s None;
      men = slice_set b.men place (bit_and (slice_index b.men place) (bit_not w64 (1 * 2 ^ s % 2 ^ 64)));
      promoted = bit_and b.promoted (bit_not w64 (1 * 2 ^ s % 2 ^ 64));
      occupied = bit_and b.occupied (bit_not w64 (1 * 2 ^ s % 2 ^ 64));
    })
kept_lift b s place m h ls here lp e = record {
  squares = length-set b.squares s None ∙ h.squares;
  places = length-set b.men place (bit_and (slice_index b.men place) (bit_not w64 (1 * 2 ^ s % 2 ^ 64))) ∙ h.places;
  men =
      men_written b.squares b.men (slice_set b.squares s None) place
      (bit_and (slice_index b.men place) (bit_not w64 (1 * 2 ^ s % 2 ^ 64))) h.places lp h.men
      (clear_bit (is_placed place) b.squares s None h.squares ls (slice_index b.men place) refl (h.men place lp))
      (λ i li other. keep_bit (is_placed i) b.squares s None h.squares ls (slice_index b.men i)
      (bit_of (is_placed i) b.squares s (Some m) here ∙ bit_at_place m place i e other) (h.men i li));
  promoted = clear_bit is_promoted b.squares s None h.squares ls b.promoted refl h.promoted;
  occupied = clear_bit is_some b.squares s None h.squares ls b.occupied refl h.occupied;
}

-- nothing on 64 squares
none_at : (t : ℕ) → t < 64 → man_at (replicate 64 None) t ≡ None
none_at t lt = get_or-replicate 64 t None None lt

zero_at : (i : ℕ) → i < 12 → slice_index (replicate 12 0) i ≡ 0
zero_at i li = get_or-replicate 12 i 0 0 li

empty_set : (f : Option Man → Bool) → bit_if (f None) ≡ 0 → IsSetOf f (replicate 64 None) 0
empty_set f e = record { each = λ t lt. bit_at-zero t ∙ sym (ap (λ x. bit_if (f x)) (none_at t lt) ∙ e) }

pub kept_empty : AreKept (record { squares = replicate 64 None; men = replicate 12 0; promoted = 0; occupied = 0 })
kept_empty = record {
  squares = refl;
  places = refl;
  men = λ i li.
      subst (λ (set : ℕ). IsSetOf (is_placed i) (replicate 64 None) set) (sym (zero_at i li))
      (empty_set (is_placed i) refl);
  promoted = empty_set is_promoted refl;
  occupied = empty_set is_some refl;
}

-- all men of a colour

six : (a b c d e f t : ℕ) → Has (bit_or (bit_or (bit_or (bit_or (bit_or a b) c) d) e) f) t →
    Has a t ⊎ (Has b t ⊎ (Has c t ⊎ (Has d t ⊎ (Has e t ⊎ Has f t))))
six a b c d e f t h = elim (Has-or (bit_or (bit_or (bit_or (bit_or a b) c) d) e) f t h) [
  | inr x ↦ inr (inr (inr (inr (inr x))))
  | inl x ↦ elim (Has-or (bit_or (bit_or (bit_or a b) c) d) e t x) [
    | inr y ↦ inr (inr (inr (inr (inl y))))
    | inl y ↦ elim (Has-or (bit_or (bit_or a b) c) d t y) [
      | inr z ↦ inr (inr (inr (inl z)))
      | inl z ↦ elim (Has-or (bit_or a b) c t z) [
        | inr v ↦ inr (inr (inl v))
        | inl v ↦ elim (Has-or a b t v) [ inr u ↦ inr (inl u) | inl u ↦ inl u ]
      ]
    ]
  ]
]

held-of-placed : (c : Colour) (k : Kind) (man : Option Man) → is_placed (man_place c k) man ≡ true
    → is_held_by c man ≡ true
held-of-placed c k None e = absurd (true≢false (sym e))
held-of-placed c k (Some m) e =
    let same = same_place m.colour c m.kind k (eqb-true (man_place m.colour m.kind) (man_place c k) e) in
    ap (λ x. same_colour x c) same.0 ∙ same_colour-self c

held_at : (P : Placement) (c : Colour) (k : Kind) (set t : ℕ) → IsSetOf (is_placed (man_place c k)) P set → t < 64
    → Has set t →
    is_held_by c (man_at P t) ≡ true
held_at P c k set t all lt h =
    held-of-placed c k (man_at P t) (bit_if-true (is_placed (man_place c k) (man_at P t)) (sym (all.each t lt) ∙ h))

bit_from : (x : ℕ) (b : Bool) → x < 2 → (x ≡ 1 → b ≡ true) → (b ≡ true → x ≡ 1) → x ≡ bit_if b
bit_from x true lt to from = from refl
bit_from x false lt to from = elim (cases_order x 0) [
  | inl none ↦ none
  | inr other ↦ elim other [
    | inl less ↦ absurd (omega (arith, less))
    | inr more ↦ absurd (true≢false (sym (to (omega (arith, lt, more)))))
  ]
]

module _ (P : Placement) (c : Colour) (side : Side) (men : AreMenOf P c side) where
  all_of : ℕ
  all_of =
      bit_or (bit_or (bit_or (bit_or (bit_or side.pawns side.knights) side.bishops) side.rooks) side.queens) side.kings

  is_held : (t : ℕ) → t < 64 → Has all_of t → is_held_by c (man_at P t) ≡ true
  unfolding all_of
  is_held t lt h = elim (six side.pawns side.knights side.bishops side.rooks side.queens side.kings t h) [
    | inl x ↦ held_at P c Pawn side.pawns t men.pawns lt x
    | inr h1 ↦ elim h1 [
      | inl x ↦ held_at P c Knight side.knights t men.knights lt x
      | inr h2 ↦ elim h2 [
        | inl x ↦ held_at P c Bishop side.bishops t men.bishops lt x
        | inr h3 ↦ elim h3 [
          | inl x ↦ held_at P c Rook side.rooks t men.rooks lt x
          | inr h4 ↦ elim h4 [
            | inl x ↦ held_at P c Queen side.queens t men.queens lt x
            | inr x ↦ held_at P c King side.kings t men.kings lt x
          ]
        ]
      ]
    ]
  ]

  own_set : (t : ℕ) (k : Kind) (set : ℕ) → IsSetOf (is_placed (man_place c k)) P set → t < 64
      → is_placed (man_place c k) (man_at P t) ≡ true → Has set t
  own_set t k set all lt e = all.each t lt ∙ bit_if-of_true (is_placed (man_place c k) (man_at P t)) e

  by_kind : (t : ℕ) (k : Kind) → t < 64 → is_placed (man_place c k) (man_at P t) ≡ true → Has all_of t
  unfolding all_of
  by_kind t Pawn lt e =
      Has-or_left _ _ t
      (Has-or_left _ _ t
      (Has-or_left _ _ t (Has-or_left _ _ t (Has-or_left _ _ t (own_set t Pawn side.pawns men.pawns lt e)))))
  by_kind t Knight lt e =
      Has-or_left _ _ t
      (Has-or_left _ _ t
      (Has-or_left _ _ t (Has-or_left _ _ t (Has-or_right _ _ t (own_set t Knight side.knights men.knights lt e)))))
  by_kind t Bishop lt e =
      Has-or_left _ _ t
      (Has-or_left _ _ t (Has-or_left _ _ t (Has-or_right _ _ t (own_set t Bishop side.bishops men.bishops lt e))))
  by_kind t Rook lt e =
      Has-or_left _ _ t (Has-or_left _ _ t (Has-or_right _ _ t (own_set t Rook side.rooks men.rooks lt e)))
  by_kind t Queen lt e = Has-or_left _ _ t (Has-or_right _ _ t (own_set t Queen side.queens men.queens lt e))
  by_kind t King lt e = Has-or_right _ _ t (own_set t King side.kings men.kings lt e)

  of_man : (t : ℕ) (man : Option Man) → t < 64 → man_at P t ≡ man → is_held_by c man ≡ true → Has all_of t
  of_man t None lt e h = absurd (true≢false (sym h))
  of_man t (Some m) lt e h =
      let same : m.colour ≡ c = same_colour-eq m.colour c h in
      let place : man_place m.colour m.kind ≡ man_place c m.kind = ap (λ x. man_place x m.kind) same in
      by_kind t m.kind lt
      (ap (is_placed (man_place c m.kind)) e ∙ eq-eqb (man_place m.colour m.kind) (man_place c m.kind) place)

  held_set : IsSetOf (is_held_by c) P all_of
  held_set = record {
    each = λ t lt.
        bit_from (bit_at all_of t) (is_held_by c (man_at P t)) (bit_at-lt all_of t) (is_held t lt)
        (of_man t (man_at P t) lt refl);
  }

pub men_of_colour : (P : Placement) (c : Colour) (side : Side) → AreMenOf P c side →
    IsSetOf (is_held_by c) P
    (bit_or (bit_or (bit_or (bit_or (bit_or side.pawns side.knights) side.bishops) side.rooks) side.queens) side.kings)
unfolding all_of
men_of_colour P c side men = held_set P c side men

-- what a man reaches

held-IsHeldBy : (c : Colour) (man : Option Man) → is_held_by c man ≡ true → IsHeldBy c man
held-IsHeldBy c None e = absurd (true≢false (sym e))
held-IsHeldBy c (Some m) e = same_colour-eq m.colour c e

IsHeldBy-held : (c : Colour) (man : Option Man) → IsHeldBy c man → is_held_by c man ≡ true
IsHeldBy-held c None h = absurd h
IsHeldBy-held c (Some m) h = ap (λ x. same_colour x c) h ∙ same_colour-self c

pub Has-held : (P : Placement) (c : Colour) (set t : ℕ) → IsSetOf (is_held_by c) P set → t < 64
    → Has set t ↔ IsHeldBy c (man_at P t)
Has-held P c set t all lt = (
  λ h. held-IsHeldBy c (man_at P t) (bit_if-true (is_held_by c (man_at P t)) (sym (all.each t lt) ∙ h)),
  λ h. all.each t lt ∙ bit_if-of_true (is_held_by c (man_at P t)) (IsHeldBy-held c (man_at P t) h),
)

Has-not : (set t : ℕ) → set < 2 ^ 64 → t < 64 → Has (bit_not w64 set) t ↔ (¬ Has set t)
Has-not set t fits lt = (
  λ h own. absurd (omega (arith, h, own, bit_at_not w64 set t fits lt)),
  λ none. clear (bit_at set t) (bit_at-lt set t) none (bit_at_not w64 set t fits lt),
)
  where
    clear : (x : ℕ) → x < 2 → ¬ (x ≡ 1) → {y : ℕ} → y ≡ 1 - x → y ≡ 1
    clear x l none e = elim (cases_order x 0) [
      | inl same ↦ omega (arith, same, e)
      | inr other ↦
          elim other [ inl less ↦ absurd (omega (arith, less)) | inr more ↦ absurd (none (omega (arith, l, more))) ]
    ]

goes-set : (P : Placement) (c : Colour) (k : Kind) (s struck own : ℕ) → own < 2 ^ 64 → IsSetOf (is_held_by c) P own →
    IsStruckSet P c k s struck → (t : ℕ) → t < 64 → Has (bit_and struck (bit_not w64 own)) t ↔ Goes P c k s t
goes-set P c k s struck own fits all hit t lt = (
  λ h.
      let parts = Has-and struck (bit_not w64 own) t h in
      record {
        strikes = (hit.each t lt).0 parts.0;
        not_own = λ held. (Has-not own t fits lt).0 parts.1 ((Has-held P c own t all lt).1 held);
      },
  λ g. Has-and_both struck (bit_not w64 own) t ((hit.each t lt).1 g.strikes)
      ((Has-not own t fits lt).1 (λ h. g.not_own ((Has-held P c own t all lt).0 h))),
)

-- what a man other than a pawn strikes, its own men left out, is what it reaches
pub reach_of_struck : (P : Placement) (c : Colour) (k : Kind) (s struck own : ℕ) → k ≢ Pawn → own < 2 ^ 64
    → IsSetOf (is_held_by c) P own →
    IsStruckSet P c k s struck → IsReachSet P c k s (bit_and struck (bit_not w64 own))
reach_of_struck P c Pawn s struck own other fits all hit = absurd (other refl)
reach_of_struck P c Knight s struck own other fits all hit =
    record { each = goes-set P c Knight s struck own fits all hit }
reach_of_struck P c Bishop s struck own other fits all hit =
    record { each = goes-set P c Bishop s struck own fits all hit }
reach_of_struck P c Rook s struck own other fits all hit = record { each = goes-set P c Rook s struck own fits all hit }
reach_of_struck P c Queen s struck own other fits all hit =
    record { each = goes-set P c Queen s struck own fits all hit }
reach_of_struck P c King s struck own other fits all hit = record { each = goes-set P c King s struck own fits all hit }

none_is_not_some : (t : ℕ) (o : Option ℕ) → o ≡ None → o ≡ Some t → ⊥
none_is_not_some t o e h = cc

near : (P : Placement) (c : Colour) (a b : ℕ) → IsStep c Pawn a b → Clear P a b
unfolding IsStep
near P c a b step = Clear-near P a b (forward-near c a b step.0 step.1)

-- a pawn reaches what it may push to and the enemy men that it strikes
pub reach_of_pawn : (P : Placement) (c : Colour) (s pushes struck others : ℕ) → IsPushSet P c s pushes
    → IsStruckSet P c Pawn s struck →
    IsSetOf (is_held_by (opposite c)) P others → IsReachSet P c Pawn s (bit_or pushes (bit_and struck others))
reach_of_pawn P c s pushes struck others push hit all = record {
  each = λ t lt. (
    λ h. elim (Has-or pushes (bit_and struck others) t h) [
      | inl x ↦ inl ((push.each t lt).0 x)
      | inr x ↦
          let parts = Has-and struck others t x in
          inr (record {
            step = ((hit.each t lt).0 parts.0).step;
            enemy = inl ((Has-held P (opposite c) others t all lt).0 parts.1);
          })
    ],
    λ r. elim r [
      | inl a ↦ Has-or_left pushes (bit_and struck others) t ((push.each t lt).1 a)
      | inr a ↦ elim (a.enemy) [
        | inl held ↦ Has-or_right pushes (bit_and struck others) t (Has-and_both struck others t
            ((hit.each t lt).1 (record {
              step = a.step;
              open_way = near P c s t a.step;
            })) ((Has-held P (opposite c) others t all lt).1 held))
        | inr passed ↦ absurd (none_is_not_some t None refl passed)
      ]
    ],
  );
}
