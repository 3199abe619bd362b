-- What the calls keep: offers stay in order where some are cleared or one is made.
use Rattle.std.proofs.Common.{◌≡◌, ℕ, ◌<◌, Bool, true, false, not, cond, List, [], ◌∷◌, ◌++◌, add-one, ◌+◌, refl, sym, ap, ◌∙◌, inl, inr, Some, None}
use Rattle.std.specs.Prelude.{◌==◌, ◌&&◌, ◌||◌, Option, option_map, All}
use Rattle.std.specs.List.{filter, find, list_any}
use Rattle.std.proofs.lemmas.Bool.{eq-eqb, and_cases, and_left, and_right, or_parts, or_from, cond_both, not-true}
use Rattle.std.proofs.lemmas.List.Elements.{All-filter, All-push, All-weaker, filter_passes}
use Rattle.std.proofs.lemmas.List.Folds.{list_any-append}
use Rattle.offer_book.specs.declared.offer.Offer.{Offer}
use Rattle.offer_book.specs.declared.offer.Offer.TheVariants.{Draw, Abort, Adjourn, Takeback}
use Rattle.offer_book.specs.declared.offer.StandingOffer.{StandingOffer}
use Rattle.offer_book.specs.Offers.{AreOffers, HasOneEach, OfferBook, earliest, is_other_takeback, kind_of, same_offer, settled, stands, stands_alike, stands_for_all, where_stand, with_offer, without_offer}
use Rattle.std.specs.Cmp.{second_so}
use Rattle.collections.proofs.Tests.{list_any-filter}
use Rattle.collections.proofs.Numbers.{differ_turned}

-- a row is of this seat and kind
abbrev pub is_alike : ℕ → ℕ → StandingOffer → Bool
is_alike seat kind row = (row.seat == seat) && (kind_of row.offer == kind)

HasOneEach-filter : (q : StandingOffer → Bool) (rows : List StandingOffer) → HasOneEach rows
    → HasOneEach (filter q rows)
HasOneEach-filter q [] h = tt
HasOneEach-filter q (row ∷ rows) h =
    cond_both (q row) (row ∷ filter q rows) (filter q rows) HasOneEach
    (λ _. (list_any-filter (is_alike row.seat (kind_of row.offer)) q rows h.0, HasOneEach-filter q rows h.1))
    (λ _. HasOneEach-filter q rows h.1)

alike_other_way : (s t k l : ℕ) → ((s == t) && (k == l)) ≡ false → ((t == s) && (l == k)) ≡ false
alike_other_way s t k l h = elim (and_cases (s == t) (k == l) h) as (λ _. ((t == s) && (l == k)) ≡ false) [
  | inl e ↦ and_left (t == s) (l == k) (differ_turned s t e)
  | inr e ↦ and_right (t == s) (l == k) (differ_turned k l e)
]

HasOneEach-push : (rows : List StandingOffer) (last : StandingOffer) → HasOneEach rows
    → stands_alike rows last.seat (kind_of last.offer) ≡ false → HasOneEach (rows ++ last ∷ [])
HasOneEach-push [] last h none = (refl, tt)
HasOneEach-push (row ∷ rows) last h none =
    let both =
    or_parts (is_alike last.seat (kind_of last.offer) row) (stands_alike rows last.seat (kind_of last.offer)) none in
    let p = is_alike row.seat (kind_of row.offer) in
    let apart : p last ≡ false = alike_other_way row.seat last.seat (kind_of row.offer) (kind_of last.offer) both.0 in (
      list_any-append p rows (last ∷ [])
          ∙ or_from (list_any p rows) (p last || false) h.0 (or_from (p last) false apart refl),
      HasOneEach-push rows last h.1 both.1,
    )

-- beside takebacks of this number alone, an offer of the same kind is the same offer
alike : (b : Bool) (offer other : Offer) → (b && same_offer other offer) ≡ false
    → not (is_other_takeback offer other) ≡ true
    → (b && (kind_of other == kind_of offer)) ≡ false
alike false offer other h k = refl
alike true Draw Draw h k = h
alike true Draw Abort h k = refl
alike true Draw Adjourn h k = refl
alike true Draw (Takeback m) h k = refl
alike true Abort Draw h k = refl
alike true Abort Abort h k = h
alike true Abort Adjourn h k = refl
alike true Abort (Takeback m) h k = refl
alike true Adjourn Draw h k = refl
alike true Adjourn Abort h k = refl
alike true Adjourn Adjourn h k = h
alike true Adjourn (Takeback m) h k = refl
alike true (Takeback n) Draw h k = refl
alike true (Takeback n) Abort h k = refl
alike true (Takeback n) Adjourn h k = refl
alike true (Takeback n) (Takeback m) h k = sym k ∙ ap (λ (t : Bool). not (not t)) h

none_alike : (rows : List StandingOffer) (seat : ℕ) (offer : Offer) → stands rows seat offer ≡ false
    → stands_alike (filter (λ row. not (is_other_takeback offer row.offer)) rows) seat (kind_of offer) ≡ false
none_alike [] seat offer h = refl
none_alike (row ∷ rows) seat offer h =
    let both = or_parts ((row.seat == seat) && same_offer row.offer offer) (stands rows seat offer) h in
    let kept = filter (λ (row : StandingOffer). not (is_other_takeback offer row.offer)) rows in
    let rest : stands_alike kept seat (kind_of offer) ≡ false = none_alike rows seat offer both.1 in
    cond_both (not (is_other_takeback offer row.offer)) (row ∷ kept) kept
    (λ zs. stands_alike zs seat (kind_of offer) ≡ false)
    (λ k.
    or_from (is_alike seat (kind_of offer) row) (stands_alike kept seat (kind_of offer))
    (alike (row.seat == seat) offer row.offer both.0 k) rest)
    (λ _. rest)

-- the number of all takebacks, once this offer is made
number_after : Offer → ℕ → ℕ
number_after (Takeback n) m = n
number_after _ m = m

one_number_left : (offer : Offer) (m : ℕ) (rows : List StandingOffer)
    → All (λ row. is_other_takeback (Takeback m) row.offer ≡ false) rows
    → All (λ row. is_other_takeback (Takeback (number_after offer m)) row.offer ≡ false)
    (filter (λ row. not (is_other_takeback offer row.offer)) rows)
unfolding number_after
one_number_left (Takeback n) m rows h =
    All-weaker (λ row. not (is_other_takeback (Takeback n) row.offer) ≡ true)
    (λ row. is_other_takeback (Takeback n) row.offer ≡ false)
    (λ row k. not-true (is_other_takeback (Takeback n) row.offer) k)
    (filter (λ row. not (is_other_takeback (Takeback n) row.offer)) rows)
    (filter_passes (λ row. not (is_other_takeback (Takeback n) row.offer)) rows)
one_number_left Draw m rows h =
    All-filter (λ row. not (is_other_takeback Draw row.offer)) (λ row. is_other_takeback (Takeback m) row.offer ≡ false)
    rows h
one_number_left Abort m rows h =
    All-filter (λ row. not (is_other_takeback Abort row.offer))
    (λ row. is_other_takeback (Takeback m) row.offer ≡ false) rows h
one_number_left Adjourn m rows h =
    All-filter (λ row. not (is_other_takeback Adjourn row.offer))
    (λ row. is_other_takeback (Takeback m) row.offer ≡ false) rows h

one_number_last : (offer : Offer) (m : ℕ) → is_other_takeback (Takeback (number_after offer m)) offer ≡ false
unfolding number_after
one_number_last (Takeback n) m = ap not (eq-eqb n n refl)
one_number_last Draw m = refl
one_number_last Abort m = refl
one_number_last Adjourn m = refl

-- some offers are cleared
pub AreOffers-filter : (q : StandingOffer → Bool) (book : OfferBook) → AreOffers book
    → AreOffers (where_stand (filter q book.standing) book)
AreOffers-filter q book h = record {
  desk = h.desk;
  seated = All-filter q (λ row. row.seat < book.seats) book.standing h.seated;
  once = HasOneEach-filter q book.standing h.once;
  number = h.number;
  one_number = All-filter q (λ row. is_other_takeback (Takeback h.number) row.offer ≡ false) book.standing h.one_number;
}

-- a seat makes an offer that it doesn't have standing
pub AreOffers-with_offer : (seat : ℕ) (offer : Offer) (book : OfferBook) → AreOffers book → seat < book.seats
    → stands book.standing seat offer ≡ false → AreOffers (where_stand (with_offer seat offer book.standing) book)
AreOffers-with_offer seat offer book h seated lacking =
    let kept = filter (λ (row : StandingOffer). not (is_other_takeback offer row.offer)) book.standing in
    let last : StandingOffer = record { seat = seat; offer = offer } in
    record {
      desk = h.desk;
      seated =
          All-push (λ row. row.seat < book.seats) kept last
          (All-filter (λ row. not (is_other_takeback offer row.offer)) (λ row. row.seat < book.seats) book.standing
          h.seated)
          seated;
      once =
          HasOneEach-push kept last
          (HasOneEach-filter (λ row. not (is_other_takeback offer row.offer)) book.standing h.once)
          (none_alike book.standing seat offer lacking);
      number = number_after offer h.number;
      one_number =
          All-push (λ row. is_other_takeback (Takeback (number_after offer h.number)) row.offer ≡ false) kept last
          (one_number_left offer h.number book.standing h.one_number) (one_number_last offer h.number);
    }

first_lacking : (b : Bool) (row : StandingOffer) (found : Option StandingOffer) (offer : Offer) (fact : Offer → Type 0)
    → (b ≡ true → fact row.offer)
    → (option_map (λ (r : StandingOffer). r.offer) found ≡ Some offer → fact offer)
    → option_map (λ (r : StandingOffer). r.offer) (cond b (Some row) found) ≡ Some offer → fact offer
first_lacking true row found offer fact here later e = let same : row.offer ≡ offer = cc in rw (← same) (here refl)
first_lacking false row found offer fact here later e = later e

lacks : (all rows : List StandingOffer) (seat : ℕ) (offer : Offer)
    → option_map (λ (row : StandingOffer). row.offer)
    (find (λ row. not (row.seat == seat) && not (stands all seat row.offer)) rows)
    ≡ Some offer
    → stands all seat offer ≡ false
lacks all [] seat offer e = absurd (let bad : None ≡ Some offer = e in cc)
lacks all (row ∷ rows) seat offer e =
    first_lacking (not (row.seat == seat) && not (stands all seat row.offer)) row
    (find (λ row. not (row.seat == seat) && not (stands all seat row.offer)) rows) offer
    (λ o. stands all seat o ≡ false)
    (λ passes.
    not-true (stands all seat row.offer) (second_so (not (row.seat == seat)) (not (stands all seat row.offer)) passes))
    (lacks all rows seat offer) e

-- the earliest offer of another seat is one that the seat doesn't have
pub earliest_lacking : (rows : List StandingOffer) (seat : ℕ) (offer : Offer) → earliest rows seat ≡ Some offer
    → stands rows seat offer ≡ false
earliest_lacking rows seat offer e = lacks rows rows seat offer e

-- and it is cleared where it takes effect
pub AreOffers-settled : (seat : ℕ) (offer : Offer) (book : OfferBook) → AreOffers book → seat < book.seats
    → stands book.standing seat offer ≡ false
    → AreOffers (where_stand (settled book.seats offer (with_offer seat offer book.standing)) book)
AreOffers-settled seat offer book h seated lacking =
    let rows = with_offer seat offer book.standing in
    let made : AreOffers (where_stand rows book) = AreOffers-with_offer seat offer book h seated lacking in
    cond_both (stands_for_all book.seats rows offer) (without_offer offer rows) rows
    (λ (zs : List StandingOffer). AreOffers (where_stand zs book))
    (λ _. AreOffers-filter (λ (row : StandingOffer). not (same_offer row.offer offer)) (where_stand rows book) made)
    (λ _. made)

pub one_seat_more : (n : ℕ) (rows : List StandingOffer) (offer : Offer)
    → stands_for_all (n + 1) rows offer ≡ (stands_for_all n rows offer && stands rows n offer)
one_seat_more n rows offer = ap (λ k. stands_for_all k rows offer) (add-one n)
