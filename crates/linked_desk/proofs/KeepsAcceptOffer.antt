-- What the acceptance of an offer at a desk keeps.
use Rattle.std.proofs.Common.{ℕ, true, refl}
use Rattle.offer_book.specs.Offers.{accepting}
use Rattle.linked_desk.specs.AcceptOffer.{accept_effect, accepted_by}
use Rattle.linked_desk.specs.Desk.{GameState, seat_of}
use Rattle.linked_desk.specs.Offering.{with_offers}
use Rattle.linked_desk.proofs.Keeps.{Keeps, and_then, either, if_there, stays}
use Rattle.linked_desk.proofs.KeepsOffers.{agreed_follows, offers_follow}

pub Keeps-accept_effect : (desk : ℕ) (g : GameState) (session moment : ℕ)
    → Keeps g moment (Unit {0}) true (accept_effect desk g session moment)
Keeps-accept_effect desk g session moment = record {
  step = if_there (λ seat. accepted_by desk g moment seat) (seat_of g session) stays (λ seat.
      let effect = accepting g.offers seat in
      let after : GameState = with_offers effect.after moment g in
      either effect.reply.1
      (and_then (offers_follow moment (λ c. c.0) g effect.after g.tally)
      (agreed_follows moment (λ c. c.0) desk after seat effect.reply.0))
      (offers_follow moment (λ c. c.0) g effect.after g.tally));
  tells = λ s. tt;
  memory = refl;
}
