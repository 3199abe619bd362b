-- What the refusal of an offer by a player keeps.
use Rattle.std.proofs.Common.{ℕ, true, refl}
use Rattle.offer_book.specs.Offers.{declining}
use Rattle.linked_desk.specs.DeclineOffer.{decline_effect, declined_by}
use Rattle.linked_desk.specs.Desk.{GameState, seat_of}
use Rattle.linked_desk.specs.Offering.{decline_item}
use Rattle.linked_desk.proofs.Keeps.{Keeps, if_there, stays}
use Rattle.linked_desk.proofs.KeepsOffers.{decline_item-names, told_follows}

pub Keeps-decline_effect : (g : GameState) (session moment : ℕ)
    → Keeps g moment (Unit {0}) true (decline_effect g session moment)
Keeps-decline_effect g session moment = record {
  step = if_there (λ seat. declined_by g moment seat) (seat_of g session) stays (λ seat.
      told_follows moment (λ c. c.0) g (declining g.offers seat).after seat (decline_item g seat)
      (decline_item-names g seat));
  tells = λ s. tt;
  memory = refl;
}
