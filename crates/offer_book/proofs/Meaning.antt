-- What the rules of offers mean to players.
use Rattle.std.proofs.Common.{◌≡◌, ℕ, zero, suc, ◌<◌, Bool, true, false, not, cond, List, [], ◌∷◌, refl, sym, ap, ◌∙◌, inl, inr, Some, None, arith}
use Rattle.std.specs.Prelude.{◌==◌, ◌&&◌, ◌||◌, ◌↔◌, Option, All, is_none}
use Rattle.std.specs.List.{filter}
use Rattle.std.proofs.lemmas.Bool.{eqb-true, eq-eqb, ne_eqb, and_from, and_left, and_right, or_cases, or_left, or_right, cases_eq, not_from_true, not_from_false}
use Rattle.std.proofs.lemmas.List.Elements.{All-head, All-tail}
use Rattle.std.proofs.lemmas.List.Folds.{list_any-append}
use Rattle.std.proofs.lemmas.Map.Views.{any-filter_same}
use Rattle.fics_words.specs.Effect.{answered, refusal_of}
use Rattle.fics_words.specs.declared.refusal.Refusal.{Refusal}
use Rattle.fics_words.specs.declared.refusal.Refusal.TheVariants.{NoSuchOffer}
use Rattle.offer_book.specs.declared.offer.Offer.{Offer}
use Rattle.offer_book.specs.declared.offer.Offer.TheVariants.{Draw, Abort, Adjourn, Takeback}
use Rattle.offer_book.specs.declared.offer.StandingOffer.{StandingOffer}
use Rattle.offer_book.specs.Offers.{AreOffers, OfferBook, earliest, is_other_takeback, is_takeback, opponent_of, same_offer, stands, stands_for_all, with_offer}
use Rattle.offer_book.specs.Laws.{AcceptsTheEarliest, ClearsForTheMove, ClearsOne, TakebacksAgree, TakesEffectWithTheLast}
use Rattle.std.specs.Cmp.{first_so, second_so}

-- one offer is the other
same_is : (a b : Offer) → same_offer a b ≡ true → a ≡ b
same_is Draw Draw h = refl
same_is Abort Abort h = refl
same_is Adjourn Adjourn h = refl
same_is (Takeback m) (Takeback n) h = ap Takeback (eqb-true m n h)
same_is Draw Abort h = absurd (let bad : false ≡ true = h in cc)
same_is Draw Adjourn h = absurd (let bad : false ≡ true = h in cc)
same_is Draw (Takeback n) h = absurd (let bad : false ≡ true = h in cc)
same_is Abort Draw h = absurd (let bad : false ≡ true = h in cc)
same_is Abort Adjourn h = absurd (let bad : false ≡ true = h in cc)
same_is Abort (Takeback n) h = absurd (let bad : false ≡ true = h in cc)
same_is Adjourn Draw h = absurd (let bad : false ≡ true = h in cc)
same_is Adjourn Abort h = absurd (let bad : false ≡ true = h in cc)
same_is Adjourn (Takeback n) h = absurd (let bad : false ≡ true = h in cc)
same_is (Takeback m) Draw h = absurd (let bad : false ≡ true = h in cc)
same_is (Takeback m) Abort h = absurd (let bad : false ≡ true = h in cc)
same_is (Takeback m) Adjourn h = absurd (let bad : false ≡ true = h in cc)

same_itself : (offer : Offer) → same_offer offer offer ≡ true
same_itself Draw = refl
same_itself Abort = refl
same_itself Adjourn = refl
same_itself (Takeback n) = eq-eqb n n refl

-- the row is of this seat, and this very offer
abbrev is_row : ℕ → Offer → StandingOffer → Bool
is_row seat offer row = (row.seat == seat) && same_offer row.offer offer

row_seat : (seat : ℕ) (offer : Offer) (row : StandingOffer) → is_row seat offer row ≡ true → row.seat ≡ seat
row_seat seat offer row h = eqb-true row.seat seat (first_so (row.seat == seat) (same_offer row.offer offer) h)

row_offer : (seat : ℕ) (offer : Offer) (row : StandingOffer) → is_row seat offer row ≡ true → row.offer ≡ offer
row_offer seat offer row h = same_is row.offer offer (second_so (row.seat == seat) (same_offer row.offer offer) h)

pub clears_one : (rows : List StandingOffer) (offer : Offer) → ClearsOne rows offer
clears_one rows offer = record {
  cleared = λ seat. any-filter_same (is_row seat offer) (λ row. not (same_offer row.offer offer)) false
      (λ row h.
      not_from_true (same_offer row.offer offer) (second_so (row.seat == seat) (same_offer row.offer offer) h))
      rows;
  others = λ seat other differs. any-filter_same (is_row seat other) (λ row. not (same_offer row.offer offer)) true
      (λ row h.
      not_from_false (same_offer row.offer offer) (ap (λ o. same_offer o offer) (row_offer seat other row h) ∙ differs))
      rows;
}

pub clears_for_the_move : (rows : List StandingOffer) (seat : ℕ) → ClearsForTheMove rows seat
clears_for_the_move rows seat = record {
  takebacks = λ number other. any-filter_same (is_row other (Takeback number)) stays false
      (λ row h.
      and_left (not (is_takeback row.offer)) (not (row.seat == opponent_of seat))
      (ap (λ o. not (is_takeback o)) (row_offer other (Takeback number) row h)))
      rows;
  opponent = λ offer. any-filter_same (is_row (opponent_of seat) offer) stays false
      (λ row h. and_right (not (is_takeback row.offer)) (not (row.seat == opponent_of seat))
      (not_from_true (row.seat == opponent_of seat)
      (first_so (row.seat == opponent_of seat) (same_offer row.offer offer) h)))
      rows;
  others = λ other offer differs plain. any-filter_same (is_row other offer) stays true
      (λ row h. and_from (not (is_takeback row.offer)) (not (row.seat == opponent_of seat))
      (ap (λ o. not (is_takeback o)) (row_offer other offer row h) ∙ ap not plain)
      (ap (λ s. not (s == opponent_of seat)) (row_seat other offer row h)
      ∙ ap not (ne_eqb other (opponent_of seat) differs)))
      rows;
}
  where
    stays : StandingOffer → Bool
    stays row = not (is_takeback row.offer) && not (row.seat == opponent_of seat)

-- who has an offer once a seat has made it
has_after : (rows : List StandingOffer) (seat other : ℕ) (offer : Offer)
    → stands (with_offer seat offer rows) other offer
    ≡ (stands rows other offer || ((seat == other) && same_offer offer offer || false))
has_after rows seat other offer =
    let last : StandingOffer = record { seat = seat; offer = offer } in
    let kept = filter (λ (row : StandingOffer). not (is_other_takeback offer row.offer)) rows in
    list_any-append (is_row other offer) kept (last ∷ [])
    ∙ ap (λ b. b || ((seat == other) && same_offer offer offer || false))
    (any-filter_same (is_row other offer) (λ row. not (is_other_takeback offer row.offer)) true
    (λ row h. not_from_false (is_other_takeback offer row.offer)
    (and_right (is_takeback offer && is_takeback row.offer) (not (same_offer row.offer offer))
    (not_from_true (same_offer row.offer offer) (second_so (row.seat == other) (same_offer row.offer offer) h))))
    rows)

others_before : (rows : List StandingOffer) (seat other : ℕ) (offer : Offer) → (seat == other) ≡ false
    → stands (with_offer seat offer rows) other offer ≡ true → stands rows other offer ≡ true
others_before rows seat other offer differs h =
    or_false (stands rows other offer) ((seat == other) && same_offer offer offer)
    (and_left (seat == other) (same_offer offer offer) differs)
    (sym (has_after rows seat other offer) ∙ h)
  where
    or_false : (a b : Bool) → b ≡ false → (a || (b || false)) ≡ true → a ≡ true
    or_false true b e h = refl
    or_false false true e h = sym e
    or_false false false e h = h

has_still : (rows : List StandingOffer) (seat other : ℕ) (offer : Offer) → stands rows other offer ≡ true
    → stands (with_offer seat offer rows) other offer ≡ true
has_still rows seat other offer h =
    has_after rows seat other offer
    ∙ or_left (stands rows other offer) ((seat == other) && same_offer offer offer || false) h

pub has_made : (rows : List StandingOffer) (seat : ℕ) (offer : Offer)
    → stands (with_offer seat offer rows) seat offer ≡ true
has_made rows seat offer =
    has_after rows seat seat offer
    ∙ or_right (stands rows seat offer) ((seat == seat) && same_offer offer offer || false)
    (or_left ((seat == seat) && same_offer offer offer) false
    (and_from (seat == seat) (same_offer offer offer) (eq-eqb seat seat refl) (same_itself offer)))

all_have : (n : ℕ) (rows : List StandingOffer) (offer : Offer) → stands_for_all n rows offer ≡ true → (seat : ℕ)
    → seat < n → stands rows seat offer ≡ true
all_have zero rows offer h seat below = absurd (omega (arith, below))
all_have (suc n) rows offer h seat below =
    elim (cases_eq seat n) as (λ _. stands rows seat offer ≡ true) [
      | inl same ↦ ap (λ s. stands rows s offer) same ∙ second_so (stands_for_all n rows offer) (stands rows n offer) h
      | inr other ↦
          all_have n rows offer (first_so (stands_for_all n rows offer) (stands rows n offer) h) seat
          (less seat n below other)
    ]
  where
    less : (k n : ℕ) → k < suc n → (k ≡ n → ⊥) → k < n
    less k n h other = grind arith

have_all : (n : ℕ) (rows : List StandingOffer) (offer : Offer) → ((seat : ℕ) → seat < n → stands rows seat offer ≡ true)
    → stands_for_all n rows offer ≡ true
have_all zero rows offer h = refl
have_all (suc n) rows offer h =
    and_from (stands_for_all n rows offer) (stands rows n offer)
    (have_all n rows offer (λ seat below. h seat (more seat n below))) (h n (itself n))
  where
    more : (k n : ℕ) → k < n → k < suc n
    more k n h = omega (arith, h)

    itself : (n : ℕ) → n < suc n
    itself n = omega arith

pub with_the_last : (book : OfferBook) (seat : ℕ) (offer : Offer) → TakesEffectWithTheLast book seat offer
with_the_last book seat offer = (
  λ h other below differs. others_before book.standing seat other offer (ne_eqb seat other (λ e. differs (sym e)))
      (all_have book.seats (with_offer seat offer book.standing) offer h other below),
  λ h. have_all book.seats (with_offer seat offer book.standing) offer (λ other below.
      elim (cases_eq other seat) as (λ _. stands (with_offer seat offer book.standing) other offer ≡ true) [
        | inl same ↦
            ap (λ s. stands (with_offer seat offer book.standing) s offer) same ∙ has_made book.standing seat offer
        | inr differs ↦ has_still book.standing seat other offer (h other below differs)
      ]),
)

number_is : (rows : List StandingOffer) (number seat m : ℕ)
    → All (λ row. is_other_takeback (Takeback number) row.offer ≡ false) rows
    → stands rows seat (Takeback m) ≡ true → m ≡ number
number_is [] number seat m all h = absurd (let bad : false ≡ true = h in cc)
number_is (row ∷ rows) number seat m all h =
    elim (or_cases (is_row seat (Takeback m) row) (stands rows seat (Takeback m)) h) as (λ _. m ≡ number) [
      | inl here ↦ eqb-true m number (not_false (m == number)
          (sym (ap (λ o. is_other_takeback (Takeback number) o) (row_offer seat (Takeback m) row here))
          ∙ All-head (λ r. is_other_takeback (Takeback number) r.offer ≡ false) row rows all))
      | inr later ↦
          number_is rows number seat m
          (All-tail (λ r. is_other_takeback (Takeback number) r.offer ≡ false) row rows all) later
    ]
  where
    not_false : (t : Bool) → not t ≡ false → t ≡ true
    not_false true h = refl
    not_false false h = sym h

pub one_number : (book : OfferBook) → AreOffers book → TakebacksAgree book.standing
one_number book h = λ seat other m n p q.
    number_is book.standing h.number seat m h.one_number p
    ∙ sym (number_is book.standing h.number other n h.one_number q)

no_refusal : (cause : Refusal) (offer : Offer) → None ≡ Some cause → Some offer ≡ None
no_refusal cause offer e = cc

refuses : {R : Type 0} (found : Option Offer) (reply : R)
    → (found ≡ None) ↔ (refusal_of (answered (cond (is_none found) (Some NoSuchOffer) None) reply) ≡ Some NoSuchOffer)
refuses None reply = (λ _. refl, λ _. refl)
refuses (Some offer) reply = (λ e. absurd (let bad : Some offer ≡ None = e in cc), λ e. no_refusal NoSuchOffer offer e)

pub accepts_the_earliest : (book : OfferBook) (seat : ℕ) → AcceptsTheEarliest book seat
accepts_the_earliest book seat = refuses (earliest book.standing seat) _
