-- What the rules of offers mean to players.
use Rattle.std.specs.Prelude.{◌≡◌, ◌≢◌, ◌↔◌, ℕ, ◌<◌, true, false, List, None, Some}
use Rattle.fics_words.specs.Effect.{answer_of, refusal_of}
use Rattle.fics_words.specs.declared.refusal.Refusal.TheVariants.{NoSuchOffer}
use Rattle.offer_book.specs.declared.offer.Offer.{Offer}
use Rattle.offer_book.specs.declared.offer.Offer.TheVariants.{Takeback}
use Rattle.offer_book.specs.declared.offer.StandingOffer.{StandingOffer}
use Rattle.offer_book.specs.Offers.{OfferBook, accepting, after_half_move, earliest, is_takeback, opponent_of, same_offer, stands, stands_for_all, with_offer, without_offer}

-- no seat has the offer
abbrev pub NobodyHas : List StandingOffer → Offer → Type 0
NobodyHas rows offer = (seat : ℕ) → stands rows seat offer ≡ false

-- a seat that makes an offer has it standing
abbrev pub OfferStands : List StandingOffer → ℕ → Offer → Type 0
OfferStands rows seat offer = stands (with_offer seat offer rows) seat offer ≡ true

-- an offer takes effect exactly when the last seat agrees: when every other seat has it standing
abbrev pub TakesEffectWithTheLast : OfferBook → ℕ → Offer → Type 0
TakesEffectWithTheLast book seat offer =
    (stands_for_all book.seats (with_offer seat offer book.standing) offer ≡ true)
    ↔ ((other : ℕ) → other < book.seats → other ≢ seat → stands book.standing other offer ≡ true)

-- where an offer is cleared no seat has it, and every other offer stands as before
pub record ClearsOne (rows : List StandingOffer) (offer : Offer) : Type 0 where
  pub cleared : NobodyHas (without_offer offer rows) offer
  pub others : (seat : ℕ) (other : Offer) → same_offer other offer ≡ false
      → stands (without_offer offer rows) seat other ≡ stands rows seat other

-- after a half-move no takeback stands, the opponent has no offer, and every other offer stands as before
pub record ClearsForTheMove (rows : List StandingOffer) (seat : ℕ) : Type 0 where
  pub takebacks : (number : ℕ) → NobodyHas (after_half_move seat rows) (Takeback number)
  pub opponent : (offer : Offer) → stands (after_half_move seat rows) (opponent_of seat) offer ≡ false
  pub others : (other : ℕ) (offer : Offer) → other ≢ opponent_of seat → is_takeback offer ≡ false
      → stands (after_half_move seat rows) other offer ≡ stands rows other offer

-- the takebacks that stand at a desk have one number
abbrev pub TakebacksAgree : List StandingOffer → Type 0
TakebacksAgree rows = (seat other m n : ℕ)
    → stands rows seat (Takeback m) ≡ true → stands rows other (Takeback n) ≡ true → m ≡ n

-- there is no earliest offer to accept exactly where an acceptance is refused
abbrev pub AcceptsTheEarliest : OfferBook → ℕ → Type 0
AcceptsTheEarliest book seat =
    (earliest book.standing seat ≡ None) ↔ (refusal_of (answer_of (accepting book seat)) ≡ Some NoSuchOffer)
