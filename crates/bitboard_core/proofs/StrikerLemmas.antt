-- The men that strike a square, from the sets of their kinds.
use Rattle.std.proofs.Common.{◌≡◌, ℕ, ◌<◌, ◌⊎◌, true, nat_eq, nat_lt, cond, ◌%◌, refl, sym, ap, subst, ◌∙◌, inl, inr, Option, Some, None}
use Rattle.std.specs.Int.RustNames.{bit_or}
use lib.Bits.{bit_and}
use Rattle.std.proofs.lemmas.Bool.{eqb-true, eq-eqb, true≢false}
use Rattle.chess_model.specs.declared.man.Colour.{Colour}
use Rattle.chess_model.specs.declared.man.Colour.TheVariants.{White, Black}
use Rattle.chess_model.specs.declared.man.Kind.{Kind}
use Rattle.chess_model.specs.declared.man.Kind.TheVariants.{Pawn, Knight, Bishop, Rook, Queen, King}
use Rattle.chess_model.specs.declared.man.Man.{Man}
use Rattle.chess_model.specs.Placement.{Placement, man_at, opposite}
use Rattle.chess_model.specs.Reach.{IsStep, Strikes}
use Rattle.chess_model.specs.Attacked.{StrikesAs, StrikesFrom}
use Rattle.bitboard_core.specs.declared.sides.Side.{Side}
use Rattle.bitboard_core.specs.Sets.{Has, IsSetOf}
use Rattle.bitboard_core.specs.Strikers.{man_place, is_placed, AreMenOf, IsStruckSet, IsStrikerSet}
use Rattle.bitboard_core.proofs.SetLemmas.{bit_if-true, bit_if-of_true, Has-or, Has-or_left, Has-or_right, Has-and, Has-and_both}
use Rattle.chess_model.proofs.ChessLaws.{opposite-opposite, Strikes-back}

-- each place has one colour and one kind

colour_at : ℕ → Colour
colour_at i = cond (nat_lt i 6) White Black

kind_at : ℕ → Kind
kind_at i =
    cond (nat_eq (i % 6) 0) Pawn (cond (nat_eq (i % 6) 1) Knight (cond (nat_eq (i % 6) 2) Bishop
    (cond (nat_eq (i % 6) 3) Rook (cond (nat_eq (i % 6) 4) Queen King))))

colour_at-place : (c : Colour) (k : Kind) → colour_at (man_place c k) ≡ c
unfolding colour_at
colour_at-place White Pawn = refl
colour_at-place White Knight = refl
colour_at-place White Bishop = refl
colour_at-place White Rook = refl
colour_at-place White Queen = refl
colour_at-place White King = refl
colour_at-place Black Pawn = refl
colour_at-place Black Knight = refl
colour_at-place Black Bishop = refl
colour_at-place Black Rook = refl
colour_at-place Black Queen = refl
colour_at-place Black King = refl

kind_at-place : (c : Colour) (k : Kind) → kind_at (man_place c k) ≡ k
unfolding kind_at
kind_at-place White Pawn = refl
kind_at-place White Knight = refl
kind_at-place White Bishop = refl
kind_at-place White Rook = refl
kind_at-place White Queen = refl
kind_at-place White King = refl
kind_at-place Black Pawn = refl
kind_at-place Black Knight = refl
kind_at-place Black Bishop = refl
kind_at-place Black Rook = refl
kind_at-place Black Queen = refl
kind_at-place Black King = refl

pub same_place : (c d : Colour) (k j : Kind) → man_place c k ≡ man_place d j → (c ≡ d) × (k ≡ j)
same_place c d k j e = (
  sym (colour_at-place c k) ∙ ap colour_at e ∙ colour_at-place d j,
  sym (kind_at-place c k) ∙ ap kind_at e ∙ kind_at-place d j,
)

-- a man of the place of c and k strikes as one of that colour and kind
strikes-as : (P : Placement) (c : Colour) (k : Kind) (a s : ℕ) (man : Option Man)
    → is_placed (man_place c k) man ≡ true →
    Strikes P c k a s → StrikesAs P c a s man
strikes-as P c k a s None e strikes = absurd (true≢false (sym e))
strikes-as P c k a s (Some m) e strikes =
    let same = same_place m.colour c m.kind k (eqb-true (man_place m.colour m.kind) (man_place c k) e) in
    let S : Kind → Type 0 = λ j. Strikes P c j a s in
    (same.0, subst S (sym same.1) strikes)

is_placed-own : (m : Man) (c : Colour) → m.colour ≡ c → is_placed (man_place c m.kind) (Some m) ≡ true
is_placed-own m c e = eq-eqb (man_place m.colour m.kind) (man_place c m.kind) (ap (λ x. man_place x m.kind) e)

struck-back : (P : Placement) (c : Colour) (k : Kind) (a s : ℕ) → Strikes P (opposite c) k s a → Strikes P c k a s
struck-back P c k a s h =
    let S : Colour → Type 0 = λ x. Strikes P x k a s in
    subst S (opposite-opposite c) (Strikes-back P (opposite c) k s a h)

-- a man of a set strikes s where s would strike it
hit : (P : Placement) (c : Colour) (k : Kind) (s a set men : ℕ) → IsStruckSet P (opposite c) k s set →
    IsSetOf (is_placed (man_place c k)) P men → a < 64 → Has set a → Has men a → StrikesFrom P c a s
hit P c k s a set men struck all la there here =
    strikes-as P c k a s (man_at P a)
    (bit_if-true (is_placed (man_place c k) (man_at P a)) (sym (all.each a la) ∙ here))
    (struck-back P c k a s ((struck.each a la).0 there))

stands : (P : Placement) (c : Colour) (k : Kind) (a men : ℕ) → IsSetOf (is_placed (man_place c k)) P men → a < 64 →
    is_placed (man_place c k) (man_at P a) ≡ true → Has men a
stands P c k a men all la e = all.each a la ∙ bit_if-of_true (is_placed (man_place c k) (man_at P a)) e

there-Has : (P : Placement) (c : Colour) (k : Kind) (a s set : ℕ) → IsStruckSet P (opposite c) k s set → a < 64
    → Strikes P c k a s → Has set a
there-Has P c k a s set struck la h = (struck.each a la).1 (Strikes-back P c k a s h)

-- the sets that are looked at for a square s
record IsLook (P : Placement) (c : Colour) (s pawn knight king bishop rook : ℕ) : Type 0 where
  pawns : IsStruckSet P (opposite c) Pawn s pawn
  knights : IsStruckSet P (opposite c) Knight s knight
  kings : IsStruckSet P (opposite c) King s king
  bishops : IsStruckSet P (opposite c) Bishop s bishop
  rooks : IsStruckSet P (opposite c) Rook s rook

bishop-queen : (P : Placement) (c : Colour) (a b : ℕ) → Strikes P c Bishop a b → Strikes P c Queen a b
unfolding IsStep
bishop-queen P c a b h = record { step = inr h.step; open_way = h.open_way }

rook-queen : (P : Placement) (c : Colour) (a b : ℕ) → Strikes P c Rook a b → Strikes P c Queen a b
unfolding IsStep
rook-queen P c a b h = record { step = inl h.step; open_way = h.open_way }

queen-line : (P : Placement) (c : Colour) (a b : ℕ) → Strikes P c Queen a b
    → Strikes P c Rook a b ⊎ Strikes P c Bishop a b
unfolding IsStep
queen-line P c a b h = elim (h.step) [
  | inl line ↦ inl (record { step = line; open_way = h.open_way })
  | inr line ↦ inr (record { step = line; open_way = h.open_way })
]

module _ (P : Placement) (c : Colour) (s pawn knight king bishop rook : ℕ) (side : Side) (men : AreMenOf P c side)
    (look : IsLook P c s pawn knight king bishop rook) where
  diagonal : ℕ
  diagonal = bit_or side.bishops side.queens

  straight : ℕ
  straight = bit_or side.rooks side.queens

  all_strikers : ℕ
  all_strikers =
      bit_or (bit_or (bit_or (bit_or (bit_and pawn side.pawns) (bit_and knight side.knights)) (bit_and king side.kings))
      (bit_and bishop diagonal))
      (bit_and rook straight)

  by_queen_line : (a line set : ℕ) (k : Kind) → a < 64 → IsStruckSet P (opposite c) k s set
      → (Strikes P c k a s → Strikes P c Queen a s) →
      Has set a → Has side.queens a → StrikesFrom P c a s
  by_queen_line a line set k la struck wider there here =
      strikes-as P c Queen a s (man_at P a)
      (bit_if-true (is_placed (man_place c Queen) (man_at P a)) (sym (men.queens.each a la) ∙ here))
      (wider (struck-back P c k a s ((struck.each a la).0 there)))

  on_diagonal : (a : ℕ) → a < 64 → Has (bit_and bishop diagonal) a → StrikesFrom P c a s
  unfolding diagonal
  on_diagonal a la h =
      let parts = Has-and bishop (bit_or side.bishops side.queens) a h in
      elim (Has-or side.bishops side.queens a parts.1) [
        | inl one ↦ hit P c Bishop s a bishop side.bishops look.bishops men.bishops la parts.0 one
        | inr one ↦ by_queen_line a 0 bishop Bishop la look.bishops (bishop-queen P c a s) parts.0 one
      ]

  on_straight : (a : ℕ) → a < 64 → Has (bit_and rook straight) a → StrikesFrom P c a s
  unfolding straight
  on_straight a la h =
      let parts = Has-and rook (bit_or side.rooks side.queens) a h in
      elim (Has-or side.rooks side.queens a parts.1) [
        | inl one ↦ hit P c Rook s a rook side.rooks look.rooks men.rooks la parts.0 one
        | inr one ↦ by_queen_line a 0 rook Rook la look.rooks (rook-queen P c a s) parts.0 one
      ]

  found : (a : ℕ) → a < 64 → Has all_strikers a → StrikesFrom P c a s
  unfolding all_strikers
  found a la h =
      let A = bit_and pawn side.pawns in
      let B = bit_and knight side.knights in
      let K = bit_and king side.kings in
      let D = bit_and bishop diagonal in
      let S = bit_and rook straight in
      elim (Has-or (bit_or (bit_or (bit_or A B) K) D) S a h) [
        | inr x ↦ on_straight a la x
        | inl x ↦ elim (Has-or (bit_or (bit_or A B) K) D a x) [
          | inr y ↦ on_diagonal a la y
          | inl y ↦ elim (Has-or (bit_or A B) K a y) [
            | inr z ↦
                let p = Has-and king side.kings a z in hit P c King s a king side.kings look.kings men.kings la p.0 p.1
            | inl z ↦ elim (Has-or A B a z) [
              | inr w ↦
                  let p = Has-and knight side.knights a w in
                  hit P c Knight s a knight side.knights look.knights men.knights la p.0 p.1
              | inl w ↦
                  let p = Has-and pawn side.pawns a w in
                  hit P c Pawn s a pawn side.pawns look.pawns men.pawns la p.0 p.1
            ]
          ]
        ]
      ]

  in_pawns : (a : ℕ) → Has (bit_and pawn side.pawns) a → Has all_strikers a
  unfolding all_strikers
  in_pawns a h = Has-or_left _ _ a (Has-or_left _ _ a (Has-or_left _ _ a (Has-or_left _ _ a h)))

  in_knights : (a : ℕ) → Has (bit_and knight side.knights) a → Has all_strikers a
  unfolding all_strikers
  in_knights a h = Has-or_left _ _ a (Has-or_left _ _ a (Has-or_left _ _ a (Has-or_right _ _ a h)))

  in_kings : (a : ℕ) → Has (bit_and king side.kings) a → Has all_strikers a
  unfolding all_strikers
  in_kings a h = Has-or_left _ _ a (Has-or_left _ _ a (Has-or_right _ _ a h))

  in_diagonal : (a : ℕ) → Has bishop a → Has side.bishops a ⊎ Has side.queens a → Has all_strikers a
  unfolding all_strikers diagonal
  in_diagonal a there here =
      let both : Has (bit_or side.bishops side.queens) a =
      elim here [
        | inl x ↦ Has-or_left side.bishops side.queens a x
        | inr x ↦ Has-or_right side.bishops side.queens a x
      ] in
      Has-or_left _ _ a (Has-or_right _ _ a (Has-and_both bishop (bit_or side.bishops side.queens) a there both))

  in_straight : (a : ℕ) → Has rook a → Has side.rooks a ⊎ Has side.queens a → Has all_strikers a
  unfolding all_strikers straight
  in_straight a there here =
      let both : Has (bit_or side.rooks side.queens) a =
      elim here [ inl x ↦ Has-or_left side.rooks side.queens a x | inr x ↦ Has-or_right side.rooks side.queens a x ] in
      Has-or_right _ _ a (Has-and_both rook (bit_or side.rooks side.queens) a there both)

  by_kind : (a : ℕ) (k : Kind) → a < 64 → is_placed (man_place c k) (man_at P a) ≡ true → Strikes P c k a s
      → Has all_strikers a
  by_kind a Pawn la own h =
      in_pawns a
      (Has-and_both pawn side.pawns a (there-Has P c Pawn a s pawn look.pawns la h)
      (stands P c Pawn a side.pawns men.pawns la own))
  by_kind a Knight la own h =
      in_knights a
      (Has-and_both knight side.knights a (there-Has P c Knight a s knight look.knights la h)
      (stands P c Knight a side.knights men.knights la own))
  by_kind a Bishop la own h =
      in_diagonal a (there-Has P c Bishop a s bishop look.bishops la h)
      (inl (stands P c Bishop a side.bishops men.bishops la own))
  by_kind a Rook la own h =
      in_straight a (there-Has P c Rook a s rook look.rooks la h) (inl (stands P c Rook a side.rooks men.rooks la own))
  by_kind a Queen la own h = elim (queen-line P c a s h) [
    | inl line ↦
        in_straight a (there-Has P c Rook a s rook look.rooks la line)
        (inr (stands P c Queen a side.queens men.queens la own))
    | inr line ↦
        in_diagonal a (there-Has P c Bishop a s bishop look.bishops la line)
        (inr (stands P c Queen a side.queens men.queens la own))
  ]
  by_kind a King la own h =
      in_kings a
      (Has-and_both king side.kings a (there-Has P c King a s king look.kings la h)
      (stands P c King a side.kings men.kings la own))

  by_man : (a : ℕ) (man : Option Man) → a < 64 → man_at P a ≡ man → StrikesAs P c a s man → Has all_strikers a
  by_man a None la e h = absurd h
  by_man a (Some m) la e h =
      by_kind a m.kind la (ap (is_placed (man_place c m.kind)) e ∙ is_placed-own m c h.0) h.1

  striker_set : IsStrikerSet P c s all_strikers
  striker_set = record { each = λ a la. (found a la, by_man a (man_at P a) la refl) }

pub strikers_found : (P : Placement) (c : Colour) (s pawn knight king bishop rook : ℕ) (side : Side)
    → AreMenOf P c side →
    IsStruckSet P (opposite c) Pawn s pawn → IsStruckSet P (opposite c) Knight s knight
    → IsStruckSet P (opposite c) King s king →
    IsStruckSet P (opposite c) Bishop s bishop → IsStruckSet P (opposite c) Rook s rook →
    IsStrikerSet P c s
    (bit_or (bit_or (bit_or (bit_or (bit_and pawn side.pawns) (bit_and knight side.knights)) (bit_and king side.kings))
    (bit_and bishop (bit_or side.bishops side.queens))) (bit_and rook (bit_or side.rooks side.queens)))
unfolding all_strikers diagonal straight
strikers_found P c s pawn knight king bishop rook side men a b d e f =
    striker_set P c s pawn knight king bishop rook side men (record {
      pawns = a;
      knights = b;
      kings = d;
      bishops = e;
      rooks = f;
    })
