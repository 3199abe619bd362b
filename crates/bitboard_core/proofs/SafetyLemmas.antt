-- Kings that are looked at one after the other.
use Rattle.std.proofs.Common.{arith, ◌≡◌, ◌≢◌, ℕ, ◌+◌, ◌<◌, ◌≤◌, true, sym, ap, subst, ◌∙◌, inl, inr, Option, Some, None, IsTrue, ◌↔◌}
use Rattle.std.specs.Int.{bit_at}
use Rattle.std.proofs.lemmas.Bool.{cases_order, eqb-true, eq-eqb, true≢false}
use Rattle.std.proofs.lemmas.Nat.Bits.{bit_at-zero}
use Rattle.chess_model.specs.declared.man.Colour.{Colour}
use Rattle.chess_model.specs.declared.man.Kind.{Kind}
use Rattle.chess_model.specs.declared.man.Kind.TheVariants.{King}
use Rattle.chess_model.specs.declared.man.Man.{Man}
use Rattle.chess_model.specs.Placement.{Placement, man_at, opposite, IsHeldAs}
use Rattle.chess_model.specs.Attacked.{IsAttacked, IsInCheckOn, IsKingSafe}
use Rattle.bitboard_core.specs.declared.sides.Side.{Side}
use Rattle.bitboard_core.specs.Sets.{Has}
use Rattle.bitboard_core.specs.Strikers.{man_place, is_placed, IsOccupied, AreMenOf, AreKingsOf, IsStrikerSet}
use Rattle.bitboard_core.proofs.SetLemmas.{bit_if-true, bit_if-of_true}
use Rattle.bitboard_core.proofs.StrikerLemmas.{same_place}
use Rattle.std.proofs.lemmas.Nat.Bits.{bit_at-trailing_zeros}
use Rattle.std.proofs.Common.{◌^◌, not, nat_eq, w64}
use Rattle.std.specs.Int.{trailing_zeros}
use Rattle.std.proofs.lemmas.Bool.Decides.{eqb_tells}
use Rattle.chess_model.proofs.ChessLaws.{opposite-opposite}

-- no king below n is attacked
abbrev pub AreCheckedBelow : Side → Colour → ℕ → ℕ → ℕ → Type 0
AreCheckedBelow side by occupied kings n =
    (P : Placement) → AreMenOf P by side → IsOccupied P occupied → AreKingsOf P (opposite by) kings →
    (k : ℕ) → k < n → k < 64 → ¬ IsInCheckOn P (opposite by) k

held-place : (c : Colour) (k : Kind) (man : Option Man) → IsHeldAs c k man → is_placed (man_place c k) man ≡ true
held-place c k None h = absurd h
held-place c k (Some m) h =
    eq-eqb (man_place m.colour m.kind) (man_place c k) ((λ i. man_place (h.0 i) m.kind) ∙ ap (man_place c) h.1)

place-held : (c : Colour) (k : Kind) (man : Option Man) → is_placed (man_place c k) man ≡ true → IsHeldAs c k man
place-held c k None e = absurd (true≢false (sym e))
place-held c k (Some m) e = same_place m.colour c m.kind k (eqb-true (man_place m.colour m.kind) (man_place c k) e)

king-Has : (P : Placement) (c : Colour) (kings k : ℕ) → AreKingsOf P c kings → k < 64 → IsInCheckOn P c k → Has kings k
king-Has P c kings k all lk h =
    all.each k lk ∙ bit_if-of_true (is_placed (man_place c King) (man_at P k)) (held-place c King (man_at P k) h.0)

pub Has-king : (P : Placement) (c : Colour) (kings k : ℕ) → AreKingsOf P c kings → k < 64 → Has kings k
    → IsHeldAs c King (man_at P k)
Has-king P c kings k all lk h =
    place-held c King (man_at P k) (bit_if-true (is_placed (man_place c King) (man_at P k)) (sym (all.each k lk) ∙ h))

pub checked-start : (side : Side) (by : Colour) (occupied kings n : ℕ) → ((k : ℕ) → 0 ≤ k → k < n → ¬ Has kings k) →
    AreCheckedBelow side by occupied kings n
checked-start side by occupied kings n gap P men all own k lk lk64 h =
    gap k (omega arith) lk (king-Has P (opposite by) kings k own lk64 h)

pub checked-more : (side : Side) (by : Colour) (occupied kings s n : ℕ) → AreCheckedBelow side by occupied kings s →
    ((P : Placement) → AreMenOf P by side → IsOccupied P occupied → ¬ IsAttacked P by s) →
    ((k : ℕ) → s + 1 ≤ k → k < n → ¬ Has kings k) → AreCheckedBelow side by occupied kings n
checked-more side by occupied kings s n old here gap P men all own k lk lk64 h = elim (cases_order k s) [
  | inl same ↦
      let A : Colour → Type 0 = λ c. IsAttacked P c k in
      let attacked : IsAttacked P by k = subst A (opposite-opposite by) h.1 in
      let S : ℕ → Type 0 = λ x. IsAttacked P by x in
      here P men all (subst S same attacked)
  | inr other ↦ elim other [
    | inl less ↦ old P men all own k less lk64 h
    | inr more ↦ gap k (omega (arith, more)) lk (king-Has P (opposite by) kings k own lk64 h)
  ]
]

pub unsafe-one : (P : Placement) (by : Colour) (kings s : ℕ) → AreKingsOf P (opposite by) kings → s < 64 → Has kings s →
    IsAttacked P by s → ¬ IsKingSafe P (opposite by)
unsafe-one P by kings s own ls h attacked safe =
    let A : Colour → Type 0 = λ c. IsAttacked P c s in
    safe.safe s ls (Has-king P (opposite by) kings s own ls h, subst A (sym (opposite-opposite by)) attacked)

-- a square is attacked where the set of those that strike it isn't empty

attacked_some : (P : Placement) (by : Colour) (s set : ℕ) → set < 2 ^ 64 → 0 < set → IsStrikerSet P by s set
    → IsAttacked P by s
unfolding IsAttacked
attacked_some P by s set fits some all =
    let lowest = bit_at-trailing_zeros w64 set some fits in
    (trailing_zeros w64 set, lowest.0, (all.each (trailing_zeros w64 set) lowest.0).0 lowest.1)

attacked_none : (P : Placement) (by : Colour) (s set : ℕ) → IsStrikerSet P by s set → set ≡ 0 → ¬ IsAttacked P by s
unfolding IsAttacked
attacked_none P by s set all e h =
    absurd (omega (arith, (all.each h.0 h.1).1 h.2, ap (λ x. bit_at x h.0) e, bit_at-zero h.0))

pub struck-is : (P : Placement) (by : Colour) (s set : ℕ) → set < 2 ^ 64 → IsStrikerSet P by s set →
    IsTrue (not (nat_eq set 0)) ↔ IsAttacked P by s
struck-is P by s set fits all = elim (eqb_tells set 0) [
  | inl zero ↦ (
    λ h. absurd (true≢false (sym h ∙ ap not zero.0)),
    λ h. absurd (attacked_none P by s set all zero.1 h),
  )
  | inr some ↦ (λ h. attacked_some P by s set fits (pos set some.1) all, λ h. ap not some.0)
]
  where
    pos : (x : ℕ) → x ≢ 0 → 0 < x
    pos x other = elim (cases_order x 0) [
      | inl same ↦ absurd (other same)
      | inr apart ↦ elim apart [ inl less ↦ absurd (omega (arith, less)) | inr more ↦ more ]
    ]
