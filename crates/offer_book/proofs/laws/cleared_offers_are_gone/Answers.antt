use Rattle.offer_book.proofs.Meaning.{clears_one}
use Rattle.offer_book.proofs.laws.cleared_offers_are_gone.Goals as goal

pub returns : goal.returns
returns c = clears_one c.args.offers.now.standing c.args.offer
