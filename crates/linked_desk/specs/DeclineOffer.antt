-- Declining an offer at a desk: the earliest offer of another seat that the session's own lacks stands no more.
use Rattle.std.specs.Prelude.{ℕ, true, [], ◌∷◌, List, Option, Some, None, is_none}
use Rattle.fics_words.specs.Effect.{Cause, Effect}
use Rattle.fics_words.specs.declared.refusal.Refusal.TheVariants.{NoSuchOffer}
use Rattle.offer_book.specs.Offers.{OfferBook, declining, earliest}
use Rattle.linked_desk.specs.declared.acts.DeskReply.{DeskReply}
use Rattle.linked_desk.specs.declared.acts.DeskReply.TheVariants.{Done}
use Rattle.linked_desk.specs.Desk.{GameState, seat_of}
use Rattle.linked_desk.specs.Ends.{no_seat_cause, over_cause}
use Rattle.linked_desk.specs.Offering.{decline_item, offers_told, told_out_cause}

-- why who has that seat, or none, can't decline: there is no such offer, or the seat has made enough
abbrev pub decline_causes : GameState → Option ℕ → List Cause
decline_causes g None = []
decline_causes g (Some seat) =
    (is_none (earliest g.offers.standing seat), NoSuchOffer) ∷ told_out_cause g seat ∷ []

-- the game after it: the offer stands for no seat, and that is told
abbrev pub declined_by : GameState → ℕ → Option ℕ → GameState
declined_by g moment None = g
declined_by g moment (Some seat) = offers_told (declining g.offers seat).after seat moment (decline_item g seat) g

-- declines the earliest offer: refused where the session has no seat, where the game has ended, where no other seat has
-- an offer standing that this seat lacks, and where the seat has made enough
abbrev pub decline_effect : GameState → ℕ → ℕ → Effect GameState DeskReply
decline_effect g session moment = record {
  causes = no_seat_cause g session ∷ over_cause g ∷ decline_causes g (seat_of g session);
  memory = true;
  reply = Done;
  after = declined_by g moment (seat_of g session);
}

-- these offers stand, and the seat tells that it declined
abbrev pub refusing_effect : GameState → OfferBook → ℕ → ℕ → Effect GameState DeskReply
refusing_effect g offers seat moment = record {
  causes = [];
  memory = true;
  reply = Done;
  after = offers_told offers seat moment (decline_item g seat) g;
}
