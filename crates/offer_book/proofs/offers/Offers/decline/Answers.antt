use Rattle.std.proofs.Common.{List, sym, subst}
use Rattle.offer_book.specs.declared.offer.StandingOffer.{StandingOffer}
use Rattle.offer_book.specs.Offers.{AreOffers, OfferBook, where_stand}
use Rattle.offer_book.proofs.Keeping.{AreOffers-filter}
use Rattle.offer_book.proofs.offers.Offers.decline.Goals as goal

pub invariant_of-self : goal.invariant_of-self
invariant_of-self c =
    let book : OfferBook = record { seats = c.self.inside.seats; standing = c.self.inside.rows } in
    subst (λ (rows : List StandingOffer). AreOffers (where_stand rows book)) (sym c.retain.ensures)
    (AreOffers-filter _ book c.self.invariant)
