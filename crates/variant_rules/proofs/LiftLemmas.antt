-- A placement from which a set of men is lifted.
use Rattle.std.proofs.Common.{arith, ◌≡◌, ◌≢◌, ℕ, zero, suc, ◌<◌, ◌^◌, inl, inr, map, length, Bool, false, is_some, refl, sym, ap, subst, ◌∙◌, zero-add, Option, Some, None, w64}
use Rattle.std.specs.Prelude.{slice_set}
use Rattle.std.specs.List.{range_with_len}
use Rattle.std.specs.Int.{bit_at, bit_not}
use Rattle.std.specs.Int.Bits.{and_lt}
use lib.Bits.{bit_and}
use Rattle.std.proofs.lemmas.Bool.{false_from_ne_true, cases_eq}
use Rattle.std.proofs.lemmas.List.FromFn.{get_or-map-range_with_len}
use Rattle.std.proofs.lemmas.Nat.Bits.{bit_at_and, bit_at_not, bit_at-lt}
use Rattle.chess_model.specs.declared.man.Colour.{Colour}
use Rattle.chess_model.specs.declared.man.Kind.{Kind}
use Rattle.chess_model.specs.declared.man.Kind.TheVariants.{Pawn, Knight, Bishop, Rook, Queen, King}
use Rattle.chess_model.specs.declared.man.Man.{Man}
use Rattle.chess_model.specs.Placement.{Placement, man_at, opposite, IsHeldBy, IsHeldAs}
use Rattle.chess_model.specs.Attacked.{StrikesFrom, IsAttacked}
use Rattle.chess_model.specs.Men.{is_held_as, is_held_by}
use Rattle.chess_model.proofs.TestsDecide.{Decides-held_as}
use Rattle.bitboard_core.specs.declared.sides.Side.{Side}
use Rattle.bitboard_core.specs.Sets.{Has, IsSetOf, bit_if}
use Rattle.bitboard_core.specs.Strikers.{man_place, is_placed, IsOccupied, AreMenOf, IsStruckSet, IsStrikerSet}
use Rattle.bitboard_core.proofs.SetLemmas.{Has-and, Has-and_both}
use Rattle.variant_rules.specs.Checks.{AreSeenFrom, ArePinned}
use Rattle.variant_rules.proofs.SightLemmas.{held-placed}
use Rattle.variant_rules.proofs.CheckLemmas.{has_or_not, held-both, none-held, at-written, at-unwritten, Eases, eased-from, bare-from, bare-strikes, bare-near, bare-far}
use Rattle.bitboard_core.proofs.BitsLemmas.{Has-held}

-- nothing where the bit is set
abbrev pub lift_man : ℕ → Option Man → Option Man
lift_man zero man = man
lift_man (suc n) man = None

unfoldable pub lifted : Placement → ℕ → Placement
lifted P set = map (λ t. lift_man (bit_at set t) (man_at P t)) (range_with_len 0 64)

no-bit : (set t : ℕ) → ¬ Has set t → bit_at set t ≡ 0
no-bit set t out = none (bit_at set t) (bit_at-lt set t) out
  where
    none : (n : ℕ) → n < 2 → n ≢ 1 → n ≡ 0
    none zero l other = refl
    none (suc zero) l other = absurd (other refl)
    none (suc (suc n)) l other = absurd (omega arith)

lifted-at : (P : Placement) (set t : ℕ) → t < 64 → man_at (lifted P set) t ≡ lift_man (bit_at set t) (man_at P t)
unfolding lifted
lifted-at P set t lt =
    get_or-map-range_with_len (λ u. lift_man (bit_at set u) (man_at P u)) 0 64 t t None lt (zero-add t)

lifted-in : (P : Placement) (set t : ℕ) → t < 64 → Has set t → man_at (lifted P set) t ≡ None
lifted-in P set t lt h = lifted-at P set t lt ∙ ap (λ n. lift_man n (man_at P t)) h

lifted-out : (P : Placement) (set t : ℕ) → t < 64 → ¬ Has set t → man_at (lifted P set) t ≡ man_at P t
lifted-out P set t lt out = lifted-at P set t lt ∙ ap (λ n. lift_man n (man_at P t)) (no-bit set t out)

lifted-none : (P : Placement) (set t : ℕ) → t < 64 → man_at P t ≡ None → man_at (lifted P set) t ≡ None
lifted-none P set t lt free = elim (has_or_not set t) [
  | inl here ↦ lifted-in P set t lt here
  | inr out ↦ lifted-out P set t lt out ∙ free
]

-- the sets of what is left

pub lifted-occupied : (P : Placement) (occupied set : ℕ) → set < 2 ^ 64 → IsOccupied P occupied →
    IsOccupied (lifted P set) (bit_and occupied (bit_not w64 set))
lifted-occupied P occupied set fits all = record {
  each = λ t lt. elim (has_or_not set t) [
    | inl here ↦
        let less : bit_at (bit_and occupied (bit_not w64 set)) t ≡ 0 =
        omega
        (arith, here, bit_at_and occupied (bit_not w64 set) t, bit_at_not w64 set t fits lt, bit_at-lt occupied t) in
        less ∙ ap (λ (o : Option Man). bit_if (is_some o)) (sym (lifted-in P set t lt here))
    | inr out ↦
        let same : bit_at (bit_and occupied (bit_not w64 set)) t ≡ bit_at occupied t =
        omega (
          arith,
          no-bit set t out,
          bit_at_and occupied (bit_not w64 set) t,
          bit_at_not w64 set t fits lt,
          bit_at-lt occupied t,
        ) in
        same ∙ all.each t lt ∙ ap (λ (o : Option Man). bit_if (is_some o)) (sym (lifted-out P set t lt out))
  ];
}

-- an own man is in no set of the enemy's
pub own-unplaced : (c : Colour) (k : Kind) (man : Option Man) → IsHeldBy c man
    → is_placed (man_place (opposite c) k) man ≡ false
own-unplaced c k man own =
    sym (held-placed (opposite c) k man)
    ∙ false_from_ne_true (is_held_as (opposite c) k man)
    (λ e. held-both c man own (held_of (opposite c) k man ((Decides-held_as (opposite c) k man).0 e)))
  where
    held_of : (d : Colour) (k : Kind) (man : Option Man) → IsHeldAs d k man → IsHeldBy d man
    held_of d k None h = h
    held_of d k (Some m) h = h.0

lifted-set : (f : Option Man → Bool) (P : Placement) (set men : ℕ) → f None ≡ false
    → ((t : ℕ) → t < 64 → Has set t → f (man_at P t) ≡ false) →
    IsSetOf f P men → IsSetOf f (lifted P set) men
lifted-set f P set men none own all = record {
  each = λ t lt. elim (has_or_not set t) [
    | inl here ↦
        all.each t lt ∙ ap bit_if (own t lt here ∙ sym none)
        ∙ ap (λ (o : Option Man). bit_if (f o)) (sym (lifted-in P set t lt here))
    | inr out ↦ all.each t lt ∙ ap (λ (o : Option Man). bit_if (f o)) (sym (lifted-out P set t lt out))
  ];
}

-- the enemies are all left where own men are lifted
pub lifted-enemies : (P : Placement) (c : Colour) (set : ℕ) (side : Side)
    → ((t : ℕ) → t < 64 → Has set t → IsHeldBy c (man_at P t)) →
    AreMenOf P (opposite c) side → AreMenOf (lifted P set) (opposite c) side
lifted-enemies P c set side own all = record {
  pawns = lifted-set (is_placed (man_place (opposite c) Pawn)) P set side.pawns refl (none Pawn) all.pawns;
  knights = lifted-set (is_placed (man_place (opposite c) Knight)) P set side.knights refl (none Knight) all.knights;
  bishops = lifted-set (is_placed (man_place (opposite c) Bishop)) P set side.bishops refl (none Bishop) all.bishops;
  rooks = lifted-set (is_placed (man_place (opposite c) Rook)) P set side.rooks refl (none Rook) all.rooks;
  queens = lifted-set (is_placed (man_place (opposite c) Queen)) P set side.queens refl (none Queen) all.queens;
  kings = lifted-set (is_placed (man_place (opposite c) King)) P set side.kings refl (none King) all.kings;
}
  where
    none : (k : Kind) (t : ℕ) → t < 64 → Has set t → is_placed (man_place (opposite c) k) (man_at P t) ≡ false
    none k t lt h = own-unplaced c k (man_at P t) (own t lt h)

-- what sees through one of the lifted men sees through them all
pub lifted-eases : (P : Placement) (c : Colour) (s a set : ℕ) → length P ≡ 64 → a < 64 → Has set a →
    ((t : ℕ) → t < 64 → Has set t → IsHeldBy c (man_at P t)) → Eases (slice_set P a None) (lifted P set) (opposite c) s
lifted-eases P c s a set size la here own = record {
  empty = λ t lt far free. elim (cases_eq t a) [
    | inl same ↦ ap (man_at (lifted P set)) same ∙ lifted-in P set a la here
    | inr other ↦ lifted-none P set t lt (sym (at-unwritten P a t None other) ∙ free)
  ];
  men = λ x lx far held.
      let Q : Placement = slice_set P a None in
      elim (cases_eq x a) [
        | inl same ↦
            absurd (none-held (opposite c) (man_at Q x) (ap (man_at Q) same ∙ at-written P a None size la) held)
        | inr other ↦
            let there : IsHeldBy (opposite c) (man_at P x) =
            subst (λ (man : Option Man). IsHeldBy (opposite c) man) (at-unwritten P a x None other) held in
            lifted-out P set x lx (λ h. held-both c (man_at P x) (own x lx h) there)
            ∙ sym (at-unwritten P a x None other)
      ];
}

-- a man without whom s is attacked is among those that are first on its lines and that an enemy sees who sees s through
-- them
pub pinned-is : (P : Placement) (c : Colour) (s lines own occupied snipers seen : ℕ) (side : Side) → length P ≡ 64
    → s < 64 → lines < 2 ^ 64 →
    own < 2 ^ 64 → ¬ IsAttacked P (opposite c) s → IsStruckSet P c Queen s lines → IsSetOf (is_held_by c) P own
    → IsOccupied P occupied →
    AreMenOf P (opposite c) side →
    ((Q : Placement) → AreMenOf Q (opposite c) side
    → IsOccupied Q (bit_and occupied (bit_not w64 (bit_and lines own))) →
    IsStrikerSet Q (opposite c) s snipers) → AreSeenFrom P c snipers seen
    → ArePinned P c s (bit_and (bit_and lines own) seen)
unfolding IsAttacked
pinned-is P c s lines own occupied snipers seen side size ls fits_l fits_o safe struck held all men strike sees =
    record {
      each = λ a la here bare.
          let shields : ℕ = bit_and lines own in
          let fits : shields < 2 ^ 64 = and_lt 64 lines own fits_l fits_o in
          let owns : (t : ℕ) → t < 64 → Has shields t → IsHeldBy c (man_at P t) =
          λ t lt h. (Has-held P c own t held lt).0 (Has-and lines own t h).1 in
          let from = bare-from P c s a size la bare in
          let x : ℕ = from.0 in
          let first : Has lines a = elim (has_or_not lines a) [
            | inl in_lines ↦ in_lines
            | inr out ↦ absurd (bare-near P c s a x ls safe from.1 (λ strikes. out ((struck.each a la).1 strikes)))
          ] in
          let shield : Has shields a = Has-and_both lines own a first ((Has-held P c own a held la).1 here) in
          let set =
          strike (lifted P shields) (lifted-enemies P c shields side owns men)
          (lifted-occupied P occupied shields fits all) in
          let through : StrikesFrom (lifted P shields) (opposite c) x s =
          eased-from (slice_set P a None) (lifted P shields) (opposite c) x s from.1.square ls
          (lifted-eases P c s a shields size la shield owns)
          (bare-strikes P c s a x size la from.1) in
          let sniper : Has snipers x = (set.each x from.1.square).1 through in
          elim (has_or_not seen a) [
            | inl there ↦ Has-and_both shields seen a shield there
            | inr out ↦
                absurd
                (bare-far P c s a x ls safe from.1 (λ strikes. out (sees.each x a from.1.square la sniper strikes)))
          ];
    }
