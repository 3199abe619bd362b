-- Accepting an offer at a desk: it counts as making the earliest offer of another seat that the session's own lacks.
use Rattle.std.specs.Prelude.{ℕ, true, if◌then◌else◌, [], ◌∷◌, List, Option, Some, None}
use Rattle.fics_words.specs.Effect.{Cause, Effect}
use Rattle.offer_book.specs.Offers.{accepting}
use Rattle.linked_desk.specs.declared.acts.DeskReply.{DeskReply}
use Rattle.linked_desk.specs.declared.acts.DeskReply.TheVariants.{Done}
use Rattle.linked_desk.specs.Desk.{GameState, seat_of}
use Rattle.linked_desk.specs.Ends.{no_seat_cause, over_cause}
use Rattle.linked_desk.specs.Offering.{game_agreed, with_offers}

-- why the acceptance of who has that seat, or none, is refused: there is no such offer
abbrev pub accept_causes : GameState → Option ℕ → List Cause
accept_causes g None = []
accept_causes g (Some seat) = (accepting g.offers seat).causes

-- the game after it: the offer takes effect, or stands for this seat too
abbrev pub accepted_by : ℕ → GameState → ℕ → Option ℕ → GameState
accepted_by desk g moment None = g
accepted_by desk g moment (Some seat) =
    let effect = accepting g.offers seat in
    let after = with_offers effect.after moment g in
    if effect.reply.1 then game_agreed desk after moment seat effect.reply.0 else after

-- accepts the earliest offer: refused where the session has no seat, where the game has ended, and where no other seat
-- has an offer standing that this seat lacks
abbrev pub accept_effect : ℕ → GameState → ℕ → ℕ → Effect GameState DeskReply
accept_effect desk g session moment = record {
  causes = no_seat_cause g session ∷ over_cause g ∷ accept_causes g (seat_of g session);
  memory = true;
  reply = Done;
  after = accepted_by desk g moment (seat_of g session);
}
