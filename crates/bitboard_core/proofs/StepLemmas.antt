-- What each man strikes, as a set.
use Rattle.std.proofs.Common.{arith, ◌≡◌, ◌≢◌, ◌↔◌, ℕ, ◌^◌, ◌<◌, ◌≤◌, ◌⊎◌, Bool, ◌&&◌, ◌||◌, nat_eq, is_some, get_or, refl, sym, ap, ◌∙◌, inl, inr, Option, Some, None, w64}
use Rattle.std.specs.Bool.{Decides}
use Rattle.std.specs.Int.{bit_at, abs_diff, bit_not}
use Rattle.std.specs.Int.RustNames.{bit_or}
use lib.Bits.{bit_and}
use Rattle.std.proofs.lemmas.Bool.{cases_order}
use Rattle.std.proofs.lemmas.Bool.Decides.{Decides-eqb, Decides-and, Decides-or}
use Rattle.std.proofs.lemmas.Nat.Bits.{bit_at_not}
use Rattle.chess_model.specs.declared.man.Colour.{Colour}
use Rattle.chess_model.specs.declared.man.Colour.TheVariants.{White, Black}
use Rattle.chess_model.specs.declared.man.Kind.TheVariants.{Pawn, Knight, Bishop, Rook, Queen, King}
use Rattle.chess_model.specs.declared.man.Man.{Man}
use Rattle.chess_model.specs.Squares.{file_of, rank_of, files_apart, ranks_apart, distance, along}
use Rattle.chess_model.specs.Placement.{Placement, man_at}
use Rattle.chess_model.specs.Reach.{IsStraight, IsDiagonal, IsKnightStep, IsStep, Clear}
use Rattle.bitboard_core.specs.declared.tables.TheConstants.{KNIGHT, KING, WHITE_STRIKES, BLACK_STRIKES, WHITE_AHEAD, BLACK_AHEAD}
use Rattle.bitboard_core.specs.Sets.{Has, bit_if, set_of}
use Rattle.bitboard_core.specs.Rays.{Sense, Rises, Stays, Falls, leads, Leads, IsOn, IsOpenIn, IsRaySet, is_knight_step, is_king_step, is_pawn_strike, is_pawn_push}
use Rattle.bitboard_core.specs.Strikers.{IsOccupied, IsStruckSet, IsPushSet}
use Rattle.bitboard_core.proofs.SetLemmas.{bit_at-set_of, bit_if-true, bit_if-of_true, Has-or, Has-or_left, Has-or_right, Has-and, Has-and_both}
use Rattle.bitboard_core.proofs.TableFacts.{knight_is, king_is, white_strikes_is, black_strikes_is, white_ahead_is, black_ahead_is}
use Rattle.bitboard_core.proofs.RayLemmas.{Decides-leads, at_table}
use Rattle.chess_model.proofs.ChessLaws.{Clear-near}
use Rattle.chess_model.proofs.Squares.{along-lt}

-- empty squares of a placement, and bits that aren't set

none_of : (man : Option Man) → bit_if (is_some man) ≡ 0 → man ≡ None
none_of None e = refl
none_of (Some m) e = absurd (omega (arith, e))

bit_of_none : (man : Option Man) → man ≡ None → bit_if (is_some man) ≡ 0
bit_of_none None e = refl
bit_of_none (Some m) e = cc

clear_of_open : (P : Placement) (occupied a t : ℕ) → IsOccupied P occupied → a < 64 → t < 64 → IsOpenIn occupied a t
    → Clear P a t
clear_of_open P occupied a t all la lt way = record {
  empty = λ k some less. none_of (man_at P (along a t k))
      (sym (all.each (along a t k) (along-lt a t k la lt)) ∙ way.empty k some less);
}

open_of_clear : (P : Placement) (occupied a t : ℕ) → IsOccupied P occupied → a < 64 → t < 64 → Clear P a t
    → IsOpenIn occupied a t
open_of_clear P occupied a t all la lt way = record {
  empty = λ k some less.
      all.each (along a t k) (along-lt a t k la lt) ∙ bit_of_none (man_at P (along a t k)) (way.empty k some less);
}

-- lines and the ways that they are made of

same_square : (a t : ℕ) → file_of a ≡ file_of t → rank_of a ≡ rank_of t → a ≡ t
same_square a t files ranks = omega (arith, files, ranks)

not_here : (a t : ℕ) → 0 < distance a t → a ≢ t
not_here a t away e = absurd (omega (arith, away, e))

diagonal-of : (f r : Sense) (a t : ℕ) → files_apart a t ≡ distance a t → ranks_apart a t ≡ distance a t → IsOn f r a t
    → IsDiagonal a t
diagonal-of f r a t files ranks on = (not_here a t on.away, files ∙ sym ranks)

leads-apart : (s : Sense) (x y d : ℕ) → s ≢ Stays → Leads s x y d → abs_diff x y ≡ d
leads-apart Rises x y d moving h = omega (arith, h)
leads-apart Stays x y d moving h = absurd (moving refl)
leads-apart Falls x y d moving h = omega (arith, h)

rises : Rises ≢ Stays
rises e = cc

falls : Falls ≢ Stays
falls e = cc

diagonal_on : (f r : Sense) (a t : ℕ) → f ≢ Stays → r ≢ Stays → IsOn f r a t → IsDiagonal a t
diagonal_on f r a t mf mr on =
    diagonal-of f r a t (leads-apart f (file_of a) (file_of t) (distance a t) mf on.file)
    (leads-apart r (rank_of a) (rank_of t) (distance a t) mr on.rank) on

straight_on_file : (r : Sense) (a t : ℕ) → IsOn Stays r a t → IsStraight a t
straight_on_file r a t on = (not_here a t on.away, inl (omega (arith, on.file)))

straight_on_rank : (f : Sense) (a t : ℕ) → IsOn f Stays a t → IsStraight a t
straight_on_rank f a t on = (not_here a t on.away, inr (omega (arith, on.rank)))

-- one of four ways
abbrev pub OneOf : Type 0 → Type 0 → Type 0 → Type 0 → Type 0
OneOf A B C D = A ⊎ (B ⊎ (C ⊎ D))

diagonal-ways : (a t : ℕ) → IsDiagonal a t
    → OneOf (IsOn Rises Rises a t) (IsOn Falls Rises a t) (IsOn Rises Falls a t) (IsOn Falls Falls a t)
diagonal-ways a t h = elim (cases_order (file_of a) (file_of t)) [
  | inl same ↦ absurd (h.0 (same_square a t same (omega (arith, h.1, same))))
  | inr files ↦ elim (cases_order (rank_of a) (rank_of t)) [
    | inl same ↦ absurd (h.0 (same_square a t (omega (arith, h.1, same)) same))
    | inr ranks ↦ elim files [
      | inl right ↦ elim ranks [
        | inl up ↦
            inl (record {
              away = omega (arith, h.1, right, up);
              file = omega (arith, h.1, right, up);
              rank = omega (arith, h.1, right, up);
            })
        | inr down ↦
            inr (inr (inl (record {
              away = omega (arith, h.1, right, down);
              file = omega (arith, h.1, right, down);
              rank = omega (arith, h.1, right, down);
            })))
      ]
      | inr left ↦ elim ranks [
        | inl up ↦
            inr (inl (record {
              away = omega (arith, h.1, left, up);
              file = omega (arith, h.1, left, up);
              rank = omega (arith, h.1, left, up);
            }))
        | inr down ↦
            inr (inr (inr (record {
              away = omega (arith, h.1, left, down);
              file = omega (arith, h.1, left, down);
              rank = omega (arith, h.1, left, down);
            })))
      ]
    ]
  ]
]

straight-ways : (a t : ℕ) → IsStraight a t
    → OneOf (IsOn Stays Rises a t) (IsOn Rises Stays a t) (IsOn Stays Falls a t) (IsOn Falls Stays a t)
straight-ways a t h = elim (h.1) [
  | inl file ↦ elim (cases_order (rank_of a) (rank_of t)) [
    | inl same ↦ absurd (h.0 (same_square a t (omega (arith, file)) same))
    | inr ranks ↦ elim ranks [
      | inl up ↦
          inl (record {
            away = omega (arith, file, up);
            file = omega (arith, file, up);
            rank = omega (arith, file, up);
          })
      | inr down ↦
          inr (inr (inl (record {
            away = omega (arith, file, down);
            file = omega (arith, file, down);
            rank = omega (arith, file, down);
          })))
    ]
  ]
  | inr rank ↦ elim (cases_order (file_of a) (file_of t)) [
    | inl same ↦ absurd (h.0 (same_square a t same (omega (arith, rank))))
    | inr files ↦ elim files [
      | inl right ↦
          inr (inl (record {
            away = omega (arith, rank, right);
            file = omega (arith, rank, right);
            rank = omega (arith, rank, right);
          }))
      | inr left ↦
          inr (inr (inr (record {
            away = omega (arith, rank, left);
            file = omega (arith, rank, left);
            rank = omega (arith, rank, left);
          })))
    ]
  ]
]

-- four sets together
Has-four : (a b c d t : ℕ) → Has (bit_or (bit_or (bit_or a b) c) d) t → OneOf (Has a t) (Has b t) (Has c t) (Has d t)
Has-four a b c d t h = elim (Has-or (bit_or (bit_or a b) c) d t h) [
  | inl abc ↦ elim (Has-or (bit_or a b) c t abc) [
    | inl ab ↦ elim (Has-or a b t ab) [ inl x ↦ inl x | inr y ↦ inr (inl y) ]
    | inr z ↦ inr (inr (inl z))
  ]
  | inr w ↦ inr (inr (inr w))
]

four-Has : (a b c d t : ℕ) → OneOf (Has a t) (Has b t) (Has c t) (Has d t) → Has (bit_or (bit_or (bit_or a b) c) d) t
four-Has a b c d t h = elim h [
  | inl x ↦ Has-or_left (bit_or (bit_or a b) c) d t (Has-or_left (bit_or a b) c t (Has-or_left a b t x))
  | inr h2 ↦ elim h2 [
    | inl y ↦ Has-or_left (bit_or (bit_or a b) c) d t (Has-or_left (bit_or a b) c t (Has-or_right a b t y))
    | inr h3 ↦ elim h3 [
      | inl z ↦ Has-or_left (bit_or (bit_or a b) c) d t (Has-or_right (bit_or a b) c t z)
      | inr w ↦ Has-or_right (bit_or (bit_or a b) c) d t w
    ]
  ]
]

one_of_ways : {A B C D X Y Z W : Type 0} → OneOf A B C D → (A → X) → (B → Y) → (C → Z) → (D → W) → OneOf X Y Z W
one_of_ways h a b c d = elim h [
  | inl x ↦ inl (a x)
  | inr h2 ↦
      elim h2 [
        | inl y ↦ inr (inl (b y))
        | inr h3 ↦ elim h3 [ inl z ↦ inr (inr (inl (c z))) | inr w ↦ inr (inr (inr (d w))) ]
      ]
]

any_of : {A B C D X : Type 0} → OneOf A B C D → (A → X) → (B → X) → (C → X) → (D → X) → X
any_of h a b c d = elim h [
  | inl x ↦ a x
  | inr h2 ↦ elim h2 [ inl y ↦ b y | inr h3 ↦ elim h3 [ inl z ↦ c z | inr w ↦ d w ] ]
]

-- sliders

pub bishop_set : (P : Placement) (c : Colour) (a occupied ne nw se sw : ℕ) → a < 64 → IsOccupied P occupied →
    IsRaySet Rises Rises a occupied ne → IsRaySet Falls Rises a occupied nw → IsRaySet Rises Falls a occupied se
    → IsRaySet Falls Falls a occupied sw →
    IsStruckSet P c Bishop a (bit_or (bit_or (bit_or ne nw) se) sw)
unfolding IsStep
bishop_set P c a occupied ne nw se sw la all hne hnw hse hsw = record {
  each = λ t lt. (
    λ h. any_of (Has-four ne nw se sw t h)
        (λ x.
        let p = (hne.each t lt).0 x in
        record {
          step = diagonal_on Rises Rises a t rises rises p.0;
          open_way = clear_of_open P occupied a t all la lt p.1;
        })
        (λ x.
        let p = (hnw.each t lt).0 x in
        record {
          step = diagonal_on Falls Rises a t falls rises p.0;
          open_way = clear_of_open P occupied a t all la lt p.1;
        })
        (λ x.
        let p = (hse.each t lt).0 x in
        record {
          step = diagonal_on Rises Falls a t rises falls p.0;
          open_way = clear_of_open P occupied a t all la lt p.1;
        })
        (λ x.
        let p = (hsw.each t lt).0 x in
        record {
          step = diagonal_on Falls Falls a t falls falls p.0;
          open_way = clear_of_open P occupied a t all la lt p.1;
        }),
    λ s.
        let way = open_of_clear P occupied a t all la lt s.open_way in
        four-Has ne nw se sw t (one_of_ways (diagonal-ways a t s.step)
        (λ on. (hne.each t lt).1 (on, way)) (λ on. (hnw.each t lt).1 (on, way))
        (λ on. (hse.each t lt).1 (on, way)) (λ on. (hsw.each t lt).1 (on, way))),
  );
}

pub rook_set : (P : Placement) (c : Colour) (a occupied n e s w : ℕ) → a < 64 → IsOccupied P occupied →
    IsRaySet Stays Rises a occupied n → IsRaySet Rises Stays a occupied e → IsRaySet Stays Falls a occupied s
    → IsRaySet Falls Stays a occupied w →
    IsStruckSet P c Rook a (bit_or (bit_or (bit_or n e) s) w)
unfolding IsStep
rook_set P c a occupied n e s w la all hn he hs hw = record {
  each = λ t lt. (
    λ h. any_of (Has-four n e s w t h)
        (λ x.
        let p = (hn.each t lt).0 x in
        record { step = straight_on_file Rises a t p.0; open_way = clear_of_open P occupied a t all la lt p.1 })
        (λ x.
        let p = (he.each t lt).0 x in
        record { step = straight_on_rank Rises a t p.0; open_way = clear_of_open P occupied a t all la lt p.1 })
        (λ x.
        let p = (hs.each t lt).0 x in
        record { step = straight_on_file Falls a t p.0; open_way = clear_of_open P occupied a t all la lt p.1 })
        (λ x.
        let p = (hw.each t lt).0 x in
        record { step = straight_on_rank Falls a t p.0; open_way = clear_of_open P occupied a t all la lt p.1 }),
    λ h.
        let way = open_of_clear P occupied a t all la lt h.open_way in
        four-Has n e s w t (one_of_ways (straight-ways a t h.step)
        (λ on. (hn.each t lt).1 (on, way)) (λ on. (he.each t lt).1 (on, way))
        (λ on. (hs.each t lt).1 (on, way)) (λ on. (hw.each t lt).1 (on, way))),
  );
}

pub queen_set : (P : Placement) (c : Colour) (a bishop rook : ℕ) → IsStruckSet P c Bishop a bishop
    → IsStruckSet P c Rook a rook →
    IsStruckSet P c Queen a (bit_or bishop rook)
unfolding IsStep
queen_set P c a bishop rook hb hr = record {
  each = λ t lt. (
    λ h. elim (Has-or bishop rook t h) [
      | inl x ↦ let s = (hb.each t lt).0 x in record { step = inr s.step; open_way = s.open_way }
      | inr x ↦ let s = (hr.each t lt).0 x in record { step = inl s.step; open_way = s.open_way }
    ],
    λ s. elim (s.step) [
      | inl straight ↦ Has-or_right bishop rook t ((hr.each t lt).1 (record { step = straight; open_way = s.open_way }))
      | inr diagonal ↦ Has-or_left bishop rook t ((hb.each t lt).1 (record { step = diagonal; open_way = s.open_way }))
    ],
  );
}

-- single steps

Has-test : (f : ℕ → Bool) (set t : ℕ) (Q : Type 0) → set ≡ set_of f → t < 64 → Decides (f t) Q → Has set t ↔ Q
Has-test f set t Q e lt d = (
  λ h. d.0 (bit_if-true (f t) (sym (ap (λ x. bit_at x t) e ∙ bit_at-set_of f t lt) ∙ h)),
  λ q. ap (λ x. bit_at x t) e ∙ bit_at-set_of f t lt ∙ bit_if-of_true (f t) (d.1 q),
)

pub knight_set : (P : Placement) (c : Colour) (a : ℕ) → a < 64 → IsStruckSet P c Knight a (get_or KNIGHT a 0)
unfolding is_knight_step IsStep
knight_set P c a la = record {
  each = λ t lt.
      let one = nat_eq (files_apart a t) 1 in
      let two = nat_eq (ranks_apart a t) 2 in
      let three = nat_eq (files_apart a t) 2 in
      let four = nat_eq (ranks_apart a t) 1 in
      let d : Decides (is_knight_step a t) (IsKnightStep a t) =
      Decides-or (one && two) (three && four)
      (Decides-and one two (Decides-eqb (files_apart a t) 1) (Decides-eqb (ranks_apart a t) 2))
      (Decides-and three four (Decides-eqb (files_apart a t) 2) (Decides-eqb (ranks_apart a t) 1)) in
      let has =
      Has-test (is_knight_step a) (get_or KNIGHT a 0) t (IsKnightStep a t)
      (at_table KNIGHT is_knight_step a la knight_is) lt d in
      (λ h. record { step = has.0 h; open_way = tt }, λ s. has.1 s.step);
}

pub king_set : (P : Placement) (c : Colour) (a : ℕ) → a < 64 → IsStruckSet P c King a (get_or KING a 0)
unfolding is_king_step IsStep
king_set P c a la = record {
  each = λ t lt.
      let has =
      Has-test (is_king_step a) (get_or KING a 0) t (distance a t ≡ 1) (at_table KING is_king_step a la king_is) lt
      (Decides-eqb (distance a t) 1) in (
        λ h. let near = has.0 h in record { step = near; open_way = Clear-near P a t (omega (arith, near)) },
        λ s. has.1 s.step,
      );
}

strike-near : (r : Sense) (a t : ℕ) → files_apart a t ≡ 1 → Leads r (rank_of a) (rank_of t) 1 → distance a t ≤ 1
strike-near Rises a t files rank = omega (arith, files, rank)
strike-near Stays a t files rank = omega (arith, files, rank)
strike-near Falls a t files rank = omega (arith, files, rank)

Decides-strike : (r : Sense) (a t : ℕ)
    → Decides (is_pawn_strike r a t) ((files_apart a t ≡ 1) × Leads r (rank_of a) (rank_of t) 1)
unfolding is_pawn_strike
Decides-strike r a t =
    Decides-and (nat_eq (files_apart a t) 1) (leads r (rank_of a) (rank_of t) 1) (Decides-eqb (files_apart a t) 1)
    (Decides-leads r (rank_of a) (rank_of t) 1)

pub white_pawn_set : (P : Placement) (a : ℕ) → a < 64 → IsStruckSet P White Pawn a (get_or WHITE_STRIKES a 0)
unfolding IsStep
white_pawn_set P a la = record {
  each = λ t lt.
      let has =
      Has-test (is_pawn_strike Rises a) (get_or WHITE_STRIKES a 0) t
      ((files_apart a t ≡ 1) × Leads Rises (rank_of a) (rank_of t) 1)
      (at_table WHITE_STRIKES (is_pawn_strike Rises) a la white_strikes_is) lt (Decides-strike Rises a t) in (
        λ h. let p = has.0 h in record { step = p; open_way = Clear-near P a t (strike-near Rises a t p.0 p.1) },
        λ s. has.1 s.step,
      );
}

pub black_pawn_set : (P : Placement) (a : ℕ) → a < 64 → IsStruckSet P Black Pawn a (get_or BLACK_STRIKES a 0)
unfolding IsStep
black_pawn_set P a la = record {
  each = λ t lt.
      let has =
      Has-test (is_pawn_strike Falls a) (get_or BLACK_STRIKES a 0) t
      ((files_apart a t ≡ 1) × Leads Falls (rank_of a) (rank_of t) 1)
      (at_table BLACK_STRIKES (is_pawn_strike Falls) a la black_strikes_is) lt (Decides-strike Falls a t) in (
        λ h. let p = has.0 h in record { step = p; open_way = Clear-near P a t (strike-near Falls a t p.0 p.1) },
        λ s. has.1 s.step,
      );
}

-- pushes

IsPush : Sense → ℕ → ℕ → ℕ → Type 0
IsPush r second a t =
    (files_apart a t ≡ 0)
    × (Leads r (rank_of a) (rank_of t) 1 ⊎ (Leads r (rank_of a) (rank_of t) 2 × (rank_of a ≡ second)))

Decides-push : (r : Sense) (second a t : ℕ) → Decides (is_pawn_push r second a t) (IsPush r second a t)
unfolding is_pawn_push IsPush
Decides-push r second a t =
    let one = leads r (rank_of a) (rank_of t) 1 in
    let two = leads r (rank_of a) (rank_of t) 2 in
    let at = nat_eq (rank_of a) second in
    Decides-and (nat_eq (files_apart a t) 0) (one || (two && at)) (Decides-eqb (files_apart a t) 0)
    (Decides-or one (two && at) (Decides-leads r (rank_of a) (rank_of t) 1)
    (Decides-and two at (Decides-leads r (rank_of a) (rank_of t) 2) (Decides-eqb (rank_of a) second)))

free_bit : (P : Placement) (occupied t : ℕ) → occupied < 2 ^ 64 → IsOccupied P occupied → t < 64
    → Has (bit_not w64 occupied) t ↔ (man_at P t ≡ None)
free_bit P occupied t fits all lt = (
  λ h. none_of (man_at P t) (sym (all.each t lt) ∙ omega (arith, h, bit_at_not w64 occupied t fits lt)),
  λ e. omega (arith, bit_at_not w64 occupied t fits lt, all.each t lt ∙ bit_of_none (man_at P t) e),
)

push-on : (r : Sense) (a t : ℕ) → files_apart a t ≡ 0
    → (Leads r (rank_of a) (rank_of t) 1 ⊎ Leads r (rank_of a) (rank_of t) 2) → r ≢ Stays → IsOn Stays r a t
push-on Rises a t files (inl one) moving =
    record { away = omega (arith, files, one); file = omega (arith, files); rank = omega (arith, files, one) }
push-on Rises a t files (inr two) moving =
    record { away = omega (arith, files, two); file = omega (arith, files); rank = omega (arith, files, two) }
push-on Stays a t files h moving = absurd (moving refl)
push-on Falls a t files (inl one) moving =
    record { away = omega (arith, files, one); file = omega (arith, files); rank = omega (arith, files, one) }
push-on Falls a t files (inr two) moving =
    record { away = omega (arith, files, two); file = omega (arith, files); rank = omega (arith, files, two) }

one_or_two : {A B C : Type 0} → A ⊎ (B × C) → A ⊎ B
one_or_two h = elim h [ inl x ↦ inl x | inr y ↦ inr y.0 ]

pub white_push_set : (P : Placement) (a occupied ray : ℕ) → a < 64 → occupied < 2 ^ 64 → IsOccupied P occupied →
    IsRaySet Stays Rises a occupied ray →
    IsPushSet P White a (bit_and (bit_and ray (get_or WHITE_AHEAD a 0)) (bit_not w64 occupied))
unfolding IsPush
white_push_set P a occupied ray la fits all hray = record {
  each = λ t lt.
      let table = get_or WHITE_AHEAD a 0 in
      let ahead = Has-test (is_pawn_push Rises 1 a) table t (IsPush Rises 1 a t)
      (at_table WHITE_AHEAD (is_pawn_push Rises 1) a la white_ahead_is) lt (Decides-push Rises 1 a t) in
      let empty = free_bit P occupied t fits all lt in (
        λ h.
            let outer = Has-and (bit_and ray table) (bit_not w64 occupied) t h in
            let inner = Has-and ray table t outer.0 in
            let way = (hray.each t lt).0 inner.0 in
            let push = ahead.0 inner.1 in
            record {
              file = push.0;
              ahead = push.1;
              way = clear_of_open P occupied a t all la lt way.1;
              free = empty.0 outer.1;
            },
        λ h.
            let on = push-on Rises a t h.file (one_or_two h.ahead) rises in
            Has-and_both (bit_and ray table) (bit_not w64 occupied) t
            (Has-and_both ray table t ((hray.each t lt).1 (on, open_of_clear P occupied a t all la lt h.way))
            (ahead.1 (h.file, h.ahead)))
            (empty.1 h.free),
      );
}

pub black_push_set : (P : Placement) (a occupied ray : ℕ) → a < 64 → occupied < 2 ^ 64 → IsOccupied P occupied →
    IsRaySet Stays Falls a occupied ray →
    IsPushSet P Black a (bit_and (bit_and ray (get_or BLACK_AHEAD a 0)) (bit_not w64 occupied))
unfolding IsPush
black_push_set P a occupied ray la fits all hray = record {
  each = λ t lt.
      let table = get_or BLACK_AHEAD a 0 in
      let ahead = Has-test (is_pawn_push Falls 6 a) table t (IsPush Falls 6 a t)
      (at_table BLACK_AHEAD (is_pawn_push Falls 6) a la black_ahead_is) lt (Decides-push Falls 6 a t) in
      let empty = free_bit P occupied t fits all lt in (
        λ h.
            let outer = Has-and (bit_and ray table) (bit_not w64 occupied) t h in
            let inner = Has-and ray table t outer.0 in
            let way = (hray.each t lt).0 inner.0 in
            let push = ahead.0 inner.1 in
            record {
              file = push.0;
              ahead = push.1;
              way = clear_of_open P occupied a t all la lt way.1;
              free = empty.0 outer.1;
            },
        λ h.
            let on = push-on Falls a t h.file (one_or_two h.ahead) falls in
            Has-and_both (bit_and ray table) (bit_not w64 occupied) t
            (Has-and_both ray table t ((hray.each t lt).1 (on, open_of_clear P occupied a t all la lt h.way))
            (ahead.1 (h.file, h.ahead)))
            (empty.1 h.free),
      );
}
