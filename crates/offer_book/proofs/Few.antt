-- Four seats with at most one offer of each of four kinds: at most 16 offers stand.
use Rattle.std.proofs.Common.{◌≡◌, ℕ, zero, suc, ◌+◌, ◌*◌, ◌<◌, ◌≤◌, Bool, true, false, take, List, [], ◌∷◌, ◌++◌, length, refl, sym, ap, ◌∙◌, inl, inr, arith}
use Rattle.std.specs.Prelude.{◌==◌, ◌⊎◌, All}
use Rattle.std.proofs.lemmas.Bool.{eqb-true, eqb-false, ne_eqb, and_cases, or_parts, cases_Bool}
use Rattle.std.proofs.lemmas.List.{length_push, length-take-le}
use Rattle.std.proofs.lemmas.List.Sums.{length-filter, count_by-le-length}
use Rattle.std.specs.List.{filter}
use Rattle.std.proofs.lemmas.List.Elements.{All-head, All-tail}
use Rattle.offer_book.specs.declared.offer.Offer.{Offer}
use Rattle.offer_book.specs.declared.offer.Offer.TheVariants.{Draw, Abort, Adjourn, Takeback}
use Rattle.offer_book.specs.declared.offer.StandingOffer.{StandingOffer}
use Rattle.offer_book.specs.Offers.{AreOffers, HasOneEach, OfferBook, kind_of, stands_alike}
use Rattle.offer_book.proofs.Keeping.{is_alike}

-- a number for each seat and kind
abbrev cell : StandingOffer → ℕ
cell row = 4 * row.seat + kind_of row.offer

kind_small : (offer : Offer) → kind_of offer < 4
kind_small Draw = omega arith
kind_small Abort = omega arith
kind_small Adjourn = omega arith
kind_small (Takeback n) = omega arith

same_seat : (s t k l : ℕ) → k < 4 → l < 4 → 4 * s + k ≡ 4 * t + l → s ≡ t
same_seat s t k l p q e = omega arith

same_kind : (s t k l : ℕ) → k < 4 → l < 4 → 4 * s + k ≡ 4 * t + l → k ≡ l
same_kind s t k l p q e = omega arith

other_cell : (a b : StandingOffer) → is_alike a.seat (kind_of a.offer) b ≡ false → cell b ≡ cell a → ⊥
other_cell a b h e =
    elim (and_cases (b.seat == a.seat) (kind_of b.offer == kind_of a.offer) h) as (λ _. ⊥) [
      | inl seat ↦
          eqb-false b.seat a.seat seat
          (same_seat b.seat a.seat (kind_of b.offer) (kind_of a.offer) (kind_small b.offer) (kind_small a.offer) e)
      | inr kind ↦
          eqb-false (kind_of b.offer) (kind_of a.offer) kind
          (same_kind b.seat a.seat (kind_of b.offer) (kind_of a.offer) (kind_small b.offer) (kind_small a.offer) e)
    ]

abbrev one_if : Bool → ℕ
one_if true = 1
one_if false = 0

-- how many offers have this number
abbrev in_cell : ℕ → List StandingOffer → ℕ
in_cell n [] = 0
in_cell n (row ∷ rows) = one_if (cell row == n) + in_cell n rows

in_cell-none : (n : ℕ) (row : StandingOffer) (rows : List StandingOffer) → cell row ≡ n
    → stands_alike rows row.seat (kind_of row.offer) ≡ false → in_cell n rows ≡ 0
in_cell-none n row [] e h = refl
in_cell-none n row (next ∷ rows) e h =
    let both =
    or_parts (is_alike row.seat (kind_of row.offer) next) (stands_alike rows row.seat (kind_of row.offer)) h in
    let first : one_if (cell next == n) ≡ 0 =
    ap one_if (ne_eqb (cell next) n (λ same. other_cell row next both.0 (same ∙ sym e))) in
    let rest : in_cell n rows ≡ 0 = in_cell-none n row rows e both.1 in
    omega (arith, first, rest)

in_cell-le : (n : ℕ) (rows : List StandingOffer) → HasOneEach rows → in_cell n rows ≤ 1
in_cell-le n [] h = omega arith
in_cell-le n (row ∷ rows) h =
    elim (cases_Bool (cell row == n)) as (λ _. in_cell n (row ∷ rows) ≤ 1) [
      | inl hit ↦
          let first : one_if (cell row == n) ≡ 1 = ap one_if hit in
          let rest : in_cell n rows ≡ 0 = in_cell-none n row rows (eqb-true (cell row) n hit) h.0 in
          omega (arith, first, rest)
      | inr miss ↦
          let first : one_if (cell row == n) ≡ 0 = ap one_if miss in
          let rest : in_cell n rows ≤ 1 = in_cell-le n rows h.1 in
          omega (arith, first, rest)
    ]

-- how many offers have a number below n
abbrev below : ℕ → List StandingOffer → ℕ
below zero rows = 0
below (suc n) rows = below n rows + in_cell n rows

below-le : (n : ℕ) (rows : List StandingOffer) → HasOneEach rows → below n rows ≤ n
below-le zero rows h = omega arith
below-le (suc n) rows h = let rest = below-le n rows h in let one = in_cell-le n rows h in omega (arith, rest, one)

below-cons : (n : ℕ) (row : StandingOffer) (rows : List StandingOffer) → below n rows ≤ below n (row ∷ rows)
below-cons zero row rows = omega arith
below-cons (suc n) row rows = let rest = below-cons n row rows in omega (arith, rest)

below-more : (n : ℕ) (row : StandingOffer) (rows : List StandingOffer) → cell row < n
    → below n rows + 1 ≤ below n (row ∷ rows)
below-more zero row rows h = absurd (omega (arith, h))
below-more (suc n) row rows h =
    elim (cases_Bool (cell row == n)) as (λ _. below (suc n) rows + 1 ≤ below (suc n) (row ∷ rows)) [
      | inl hit ↦
          let first : one_if (cell row == n) ≡ 1 = ap one_if hit in
          let rest = below-cons n row rows in
          omega (arith, first, rest)
      | inr miss ↦
          let other : cell row ≡ n → ⊥ = eqb-false (cell row) n miss in
          let rest = below-more n row rows (less (cell row) n h other) in
          omega (arith, rest)
    ]
  where
    less : (k n : ℕ) → k < suc n → (k ≡ n → ⊥) → k < n
    less k n h other = grind arith

length-le-below : (n : ℕ) (rows : List StandingOffer) → All (λ row. cell row < n) rows → length rows ≤ below n rows
length-le-below n [] h = omega arith
length-le-below n (row ∷ rows) h =
    let first = below-more n row rows (All-head (λ row. cell row < n) row rows h) in
    let rest = length-le-below n rows (All-tail (λ row. cell row < n) row rows h) in
    omega (arith, first, rest)

-- a row of a desk of at most four seats
row_small : (seats : ℕ) → (seats ≡ 2) ⊎ (seats ≡ 4) → (row : StandingOffer) → row.seat < seats → cell row < 16
row_small seats (inl two) row h = let small = kind_small row.offer in omega (arith, two, h, small)
row_small seats (inr four) row h = let small = kind_small row.offer in omega (arith, four, h, small)

rows_small : (seats : ℕ) → (seats ≡ 2) ⊎ (seats ≡ 4) → (rows : List StandingOffer) → All (λ row. row.seat < seats) rows
    → All (λ row. cell row < 16) rows
rows_small seats desk rows h = λ k d inside. row_small seats desk _ (h k d inside)

few : (n : ℕ) (rows : List StandingOffer) → All (λ row. cell row < n) rows → HasOneEach rows → length rows ≤ n
few n rows small once = let a = length-le-below n rows small in let b = below-le n rows once in omega (arith, a, b)

-- at most 16 offers stand
pub AreOffers-few : (book : OfferBook) → AreOffers book → length book.standing ≤ 16
AreOffers-few book h = few 16 book.standing (rows_small book.seats h.desk book.standing h.seated) h.once

-- there is room for the last one
pub room_for_last : (rows : List StandingOffer) (last : StandingOffer) → length (rows ++ last ∷ []) ≤ 16
    → length rows < 16
room_for_last rows last h = let long = length_push rows last in omega (arith, long, h)

-- there is room for what is kept of the first rows, and for one more
pub room_for_kept : (p : StandingOffer → Bool) (rows kept : List StandingOffer) (i : ℕ) → i < length rows
    → length rows ≤ 16
    → kept ≡ filter p (take i rows) → length kept < 16
room_for_kept p rows kept i inside most so_far =
    let same : length kept ≡ length (filter p (take i rows)) = ap length so_far in
    omega (
      arith,
      same,
      length-filter p (take i rows),
      count_by-le-length p (take i rows),
      length-take-le i rows (omega arith),
    )
