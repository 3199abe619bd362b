use Rattle.std.proofs.Common.{subst}
use Rattle.offer_book.specs.Offers.{OfferBook}
use Rattle.offer_book.specs.Laws.{TakebacksAgree}
use Rattle.offer_book.proofs.Meaning.{one_number}
use Rattle.offer_book.proofs.laws.takebacks_agree.Goals as goal

pub returns : goal.returns
returns c =
    subst (λ (book : OfferBook). TakebacksAgree book.standing) c.offers.view_is
    (one_number (record { seats = c.offers.inside.seats; standing = c.offers.inside.rows }) c.offers.invariant)
