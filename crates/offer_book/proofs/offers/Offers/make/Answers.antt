use Rattle.std.proofs.Common.{◌≡◌, ◌<◌, false, List, sym, ap, subst, ◌∙◌}
use Rattle.offer_book.specs.declared.offer.StandingOffer.{StandingOffer}
use Rattle.offer_book.specs.Offers.{AreOffers, OfferBook, settled, stands, where_stand, with_offer}
use Rattle.offer_book.proofs.Keeping.{AreOffers-settled, AreOffers-with_offer}
use Rattle.offer_book.proofs.Few.{AreOffers-few}
use Rattle.offer_book.proofs.offers.Offers.make.Goals as goal

pub add-requires : goal.add-requires
add-requires c =
    let book : OfferBook = record { seats = c.self.inside.seats; standing = c.self.inside.rows } in
    let seated = subst (λ (b : OfferBook). c.args.seat < b.seats) (sym c.self.view_is) c.requires.seated in
    let lacking =
    subst (λ (b : OfferBook). stands b.standing c.args.seat c.args.offer ≡ false) (sym c.self.view_is)
    c.requires.lacking in
    AreOffers-few (where_stand (with_offer c.args.seat c.args.offer book.standing) book)
    (AreOffers-with_offer c.args.seat c.args.offer book c.self.invariant seated lacking)

pub invariant_of-self : goal.invariant_of-self
invariant_of-self c =
    let book : OfferBook = record { seats = c.self.inside.seats; standing = c.self.inside.rows } in
    let seated = subst (λ (b : OfferBook). c.args.seat < b.seats) (sym c.self.view_is) c.requires.seated in
    let lacking =
    subst (λ (b : OfferBook). stands b.standing c.args.seat c.args.offer ≡ false) (sym c.self.view_is)
    c.requires.lacking in
    subst (λ (rows : List StandingOffer). AreOffers (where_stand rows book))
    (sym (c.settle.ensures.after ∙ ap (settled book.seats c.args.offer) c.add.ensures))
    (AreOffers-settled c.args.seat c.args.offer book c.self.invariant seated lacking)
