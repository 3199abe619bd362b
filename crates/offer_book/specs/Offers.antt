-- The offers that stand at a desk: a list, in the order in which they were made. This server's own.
use Rattle.std.specs.Prelude.{◌≡◌, ◌⊎◌, ℕ, zero, suc, ◌+◌, ◌-◌, ◌%◌, ◌<◌, ◌==◌, Bool, true, false, not, ◌&&◌, cond, List, [], ◌∷◌, ◌++◌, All, Option, None, Some, is_none, option_map}
use Rattle.std.specs.List.{filter, find, list_any}
use Rattle.fics_words.specs.Effect.{Effect}
use Rattle.fics_words.specs.declared.refusal.Refusal.TheVariants.{AlreadyOffered, NoSuchOffer}
use Rattle.offer_book.specs.declared.offer.Offer.{Offer}
use Rattle.offer_book.specs.declared.offer.Offer.TheVariants.{Draw, Abort, Adjourn, Takeback}
use Rattle.offer_book.specs.declared.offer.StandingOffer.{StandingOffer}

-- the number of seats of the desk, and the offers that stand there with the seats that made them, the oldest first
pub record OfferBook : Type 0 where
  pub seats : ℕ
  pub standing : List StandingOffer

-- the two offers are one; takebacks are where they have one number
abbrev pub same_offer : Offer → Offer → Bool
same_offer Draw Draw = true
same_offer Abort Abort = true
same_offer Adjourn Adjourn = true
same_offer (Takeback m) (Takeback n) = m == n
same_offer _ _ = false

-- half-moves are to be taken back
abbrev pub is_takeback : Offer → Bool
is_takeback (Takeback n) = true
is_takeback _ = false

-- both are takebacks, of different numbers
abbrev pub is_other_takeback : Offer → Offer → Bool
is_other_takeback offer other = is_takeback offer && is_takeback other && not (same_offer other offer)

-- the seat has this very offer standing
abbrev pub stands : List StandingOffer → ℕ → Offer → Bool
stands rows seat offer = list_any (λ row. (row.seat == seat) && same_offer row.offer offer) rows

-- each of the first so many seats has this very offer standing
abbrev pub stands_for_all : ℕ → List StandingOffer → Offer → Bool
stands_for_all zero rows offer = true
stands_for_all (suc seat) rows offer = stands_for_all seat rows offer && stands rows seat offer

-- what stands without this offer, whose seat ever made it
abbrev pub without_offer : Offer → List StandingOffer → List StandingOffer
without_offer offer rows = filter (λ row. not (same_offer row.offer offer)) rows

-- the seat makes an offer: it stands behind the others, and a takeback clears those of another number
abbrev pub with_offer : ℕ → Offer → List StandingOffer → List StandingOffer
with_offer seat offer rows =
    filter (λ row. not (is_other_takeback offer row.offer)) rows ++ record { seat = seat; offer = offer } ∷ []

-- an offer takes effect where now every seat has it standing, and is cleared then
abbrev pub settled : ℕ → Offer → List StandingOffer → List StandingOffer
settled seats offer rows = cond (stands_for_all seats rows offer) (without_offer offer rows) rows

-- the earliest offer of another seat that this seat lacks
abbrev pub earliest : List StandingOffer → ℕ → Option Offer
earliest rows seat =
    option_map (λ row. row.offer) (find (λ row. not (row.seat == seat) && not (stands rows seat row.offer)) rows)

-- seats 0 and 1 are the opponents at the first board, 2 and 3 those at the second
abbrev pub opponent_of : ℕ → ℕ
opponent_of seat = cond (seat % 2 == 0) (seat + 1) (seat - 1)

-- what a half-move of the seat leaves: no takeback, and no offer of its opponent
abbrev pub after_half_move : ℕ → List StandingOffer → List StandingOffer
after_half_move seat rows = filter (λ row. not (is_takeback row.offer) && not (row.seat == opponent_of seat)) rows

-- a desk of so many seats where nothing is offered
abbrev pub no_offers : ℕ → OfferBook
no_offers seats = record { seats = seats; standing = [] }

-- the desk where other offers stand
abbrev pub where_stand : List StandingOffer → OfferBook → OfferBook
where_stand rows book = record book { standing = rows }

-- an offer is refused where the seat has it standing; the reply is whether it takes effect
abbrev pub offering : OfferBook → ℕ → Offer → Effect OfferBook Bool
offering book seat offer =
    let rows = with_offer seat offer book.standing in
    record {
      causes = (stands book.standing seat offer, AlreadyOffered) ∷ [];
      memory = false;
      reply = stands_for_all book.seats rows offer;
      after = where_stand (settled book.seats offer rows) book;
    }

-- the offer that there is; where there is none, the act is refused and this is no answer
abbrev pub the_offer : Option Offer → Offer
the_offer None = Draw
the_offer (Some offer) = offer

-- to accept is to offer the earliest offer of another seat that this seat lacks, and is refused where there is none
abbrev pub accepting : OfferBook → ℕ → Effect OfferBook (Offer × Bool)
accepting book seat =
    let offer = the_offer (earliest book.standing seat) in
    let rows = with_offer seat offer book.standing in
    record {
      causes = (is_none (earliest book.standing seat), NoSuchOffer) ∷ [];
      memory = false;
      reply = (offer, stands_for_all book.seats rows offer);
      after = where_stand (settled book.seats offer rows) book;
    }

-- to decline is to clear that offer for all seats
abbrev pub declining : OfferBook → ℕ → Effect OfferBook Offer
declining book seat =
    let offer = the_offer (earliest book.standing seat) in
    record {
      causes = (is_none (earliest book.standing seat), NoSuchOffer) ∷ [];
      memory = false;
      reply = offer;
      after = where_stand (without_offer offer book.standing) book;
    }

-- the kind of an offer: takebacks are of one kind, whatever their number
abbrev pub kind_of : Offer → ℕ
kind_of Draw = 0
kind_of Abort = 1
kind_of Adjourn = 2
kind_of (Takeback n) = 3

-- the seat has an offer of this kind standing
abbrev pub stands_alike : List StandingOffer → ℕ → ℕ → Bool
stands_alike rows seat kind = list_any (λ row. (row.seat == seat) && (kind_of row.offer == kind)) rows

-- each seat has at most one offer of each kind
abbrev pub HasOneEach : List StandingOffer → Type 0
HasOneEach [] = Unit {0}
HasOneEach (row ∷ rows) = (stands_alike rows row.seat (kind_of row.offer) ≡ false) × HasOneEach rows

-- what holds of the offers at every desk
pub record AreOffers (book : OfferBook) : Type 0 where
  pub desk : (book.seats ≡ 2) ⊎ (book.seats ≡ 4)
  pub seated : All (λ row. row.seat < book.seats) book.standing
  pub once : HasOneEach book.standing
  -- all takebacks have one number
  pub number : ℕ
  pub one_number : All (λ row. is_other_takeback (Takeback number) row.offer ≡ false) book.standing
