-- What offers at a desk mean to players.
use Rattle.std.specs.Prelude.{◌≡◌, ℕ, false, List}
use Rattle.offer_book.specs.declared.offer.Offer.{Offer}
use Rattle.offer_book.specs.declared.offer.Offer.TheVariants.{Takeback}
use Rattle.offer_book.specs.declared.offer.StandingOffer.{StandingOffer}
use Rattle.offer_book.specs.Offers.{opponent_of, stands}

-- what a half-move of this seat leaves of the offers: no takeback stands, and the seat's opponent has none
pub record IsCleared (rows : List StandingOffer) (seat : ℕ) : Type 0 where
  pub takebacks : (number other : ℕ) → stands rows other (Takeback number) ≡ false
  pub opponent : (offer : Offer) → stands rows (opponent_of seat) offer ≡ false
