-- An offer at a desk. This server's own; that a claim of a draw counts as an offer of one is FIDE 9.1.2.
use Rattle.std.specs.Prelude.{ℕ, true, not, if◌then◌else◌, [], ◌∷◌, List, Option, Some, None, slice_get}
use Rattle.chess_model.specs.declared.why.Why.{Why}
use Rattle.fics_words.specs.Effect.{Cause, Effect, first_cause}
use Rattle.fics_words.specs.declared.refusal.Refusal.{Refusal}
use Rattle.fics_words.specs.declared.refusal.Refusal.TheVariants.{AlreadyOffered, NotInVariant, NotRegistered, TooFewMoves}
use Rattle.game_board.specs.Board.{Board}
use Rattle.offer_book.specs.declared.offer.Offer.{Offer}
use Rattle.offer_book.specs.declared.offer.Offer.TheVariants.{Draw, Abort, Adjourn, Takeback}
use Rattle.offer_book.specs.Offers.{offering, stands}
use Rattle.fics_words.specs.Boards.{board_place}
use Rattle.desk_boards.specs.Claims.{claim_at}
use Rattle.desk_boards.specs.TakenBack.{lacks_half_moves}
use Rattle.linked_desk.specs.declared.acts.DeskReply.{DeskReply}
use Rattle.linked_desk.specs.declared.acts.DeskReply.TheVariants.{Done}
use Rattle.linked_desk.specs.Desk.{GameState, are_registered, is_pair, seat_of}
use Rattle.linked_desk.specs.Ends.{ended_by, no_seat_cause, over_cause}
use Rattle.linked_desk.specs.Offering.{game_agreed, end_without_winner, offer_item, offers_told, told_out_cause, with_count, with_offers}
use Rattle.linked_desk.specs.Seats.{board_of}

-- why nobody at this desk may make an offer: only players with accounts adjourn; at a pair nothing is taken back; and
-- as many half-moves as are to be taken back have to be there, at least one
abbrev pub unfit_causes : GameState → Offer → List Cause
unfit_causes g Draw = []
unfit_causes g Abort = []
unfit_causes g Adjourn = (not (are_registered g), NotRegistered) ∷ []
unfit_causes g (Takeback n) = (is_pair g, NotInVariant) ∷ (lacks_half_moves g.boards n, TooFewMoves) ∷ []

-- the causes behind an earlier refusal, if there was one
abbrev pub causes_behind : Option Refusal → List Cause → List Cause
causes_behind None causes = causes
causes_behind (Some cause) causes = (true, cause) ∷ []

-- the draw that an offer of this seat claims at its board, if it does
abbrev pub claimed : List Board → ℕ → Offer → Option Why
claimed boards seat Draw = claim_at (slice_get boards (board_place (board_of seat)))
claimed boards seat Abort = None
claimed boards seat Adjourn = None
claimed boards seat (Takeback n) = None

-- why an offer of this seat is refused that claims no draw: the seat has it standing, or has made enough
abbrev pub again_causes : GameState → ℕ → Offer → List Cause
again_causes g seat offer = (stands g.offers.standing seat offer, AlreadyOffered) ∷ told_out_cause g seat ∷ []

-- what such an offer does: it takes effect where every other seat has it standing, and else it stands and is told; it
-- counts among those of its seat either way
abbrev pub stood : ℕ → GameState → ℕ → ℕ → Offer → GameState
stood desk g seat moment offer =
    let effect = offering g.offers seat offer in
    if effect.reply then with_count seat (game_agreed desk (with_offers effect.after moment g) moment seat offer)
    else offers_told effect.after seat moment (offer_item g seat offer) g

abbrev pub offer_effect : ℕ → GameState → ℕ → ℕ → Offer → Effect GameState DeskReply
offer_effect desk g seat moment offer = record {
  causes = again_causes g seat offer;
  memory = true;
  reply = Done;
  after = stood desk g seat moment offer;
}

-- what an offer does that fits the desk: a draw that it claims ends the game
abbrev pub claim_effect : ℕ → GameState → ℕ → ℕ → Offer → Option Why → Effect GameState DeskReply
claim_effect desk g seat moment offer None = offer_effect desk g seat moment offer
claim_effect desk g seat moment offer (Some cause) = record {
  causes = [];
  memory = true;
  reply = Done;
  after = ended_by desk g moment (end_without_winner seat cause);
}

-- what an offer by who has that seat, or none, does
abbrev pub fitting_effect : ℕ → GameState → Option ℕ → ℕ → Offer → Effect GameState DeskReply
fitting_effect desk g None moment offer = record { causes = []; memory = true; reply = Done; after = g }
fitting_effect desk g (Some seat) moment offer = claim_effect desk g seat moment offer (claimed g.boards seat offer)

-- an offer is refused where the session has no seat, where the game has ended, where it doesn't fit the desk, and then,
-- unless it claims a draw, where the seat has it standing and where it has made enough
abbrev pub make_effect : ℕ → GameState → ℕ → ℕ → Offer → Effect GameState DeskReply
make_effect desk g session moment offer =
    let effect = fitting_effect desk g (seat_of g session) moment offer in
    record {
      causes =
          no_seat_cause g session ∷ over_cause g ∷ causes_behind (first_cause (unfit_causes g offer)) effect.causes;
      memory = true;
      reply = Done;
      after = effect.after;
    }
