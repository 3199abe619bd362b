-- What an offer at a desk keeps.
use Rattle.std.proofs.Common.{◌≤◌, ◌^◌, ℕ, Bool, true, false, not, List, Option, Some, None, Ok, Err, IfSome, refl}
use Rattle.std.specs.Prelude.{slice_get, if◌then◌else◌}
use Rattle.chess_model.specs.Claims.{is_fifty}
use Rattle.chess_model.specs.declared.why.Why.{Why}
use Rattle.chess_model.specs.declared.why.Why.TheVariants as why
use Rattle.fics_words.specs.declared.refusal.Refusal.TheVariants.{NothingToClaim}
use Rattle.game_board.specs.Board.{Board, position_of}
use Rattle.game_board.specs.Claim.{claim_answer, has_claims, is_third_time}
use Rattle.offer_book.specs.declared.offer.Offer.{Offer}
use Rattle.offer_book.specs.declared.offer.Offer.TheVariants.{Draw, Abort, Adjourn, Takeback}
use Rattle.offer_book.specs.Offers.{offering}
use Rattle.linked_desk.specs.Desk.{GameState, seat_of}
use Rattle.desk_boards.specs.Claims.{claim_at, granted}
use Rattle.linked_desk.specs.Make.{claim_effect, claimed, fitting_effect, make_effect, stood}
use Rattle.linked_desk.specs.Offering.{game_agreed, end_without_winner, offer_item, with_offers}
use Rattle.fics_words.specs.Boards.{board_place}
use Rattle.linked_desk.specs.Seats.{board_of}
use Rattle.linked_desk.specs.Sound.{FitsWhy}
use Rattle.linked_desk.proofs.Keeps.{Follows, Keeps, and_then, either, ended_follows, if_there, stays}
use Rattle.linked_desk.proofs.KeepsOffers.{agreed_follows, count_follows, offer_item-names, offers_follow, told_follows}

-- a claim ends the game as a draw, which names no winner
names_if : (none fifty third : Bool) → IfSome
    (granted (if none then Err NothingToClaim else if fifty then Ok why.Fifty else if third then Ok why.Threefold
    else Err NothingToClaim))
    (λ cause. FitsWhy cause None)
names_if true fifty third = tt
names_if false true third = (λ e. e, λ e. e)
names_if false false true = (λ e. e, λ e. e)
names_if false false false = tt

claim_names : (b : Option Board) → IfSome (claim_at b) (λ cause. FitsWhy cause None)
unfolding claim_answer
claim_names None = tt
claim_names (Some b) = names_if (not (has_claims b.terms.variant)) (is_fifty (position_of b)) (is_third_time b)

claimed_names : (boards : List Board) (seat : ℕ) (offer : Offer)
    → IfSome (claimed boards seat offer) (λ cause. FitsWhy cause None)
claimed_names boards seat Draw = claim_names (slice_get boards (board_place (board_of seat)))
claimed_names boards seat Abort = tt
claimed_names boards seat Adjourn = tt
claimed_names boards seat (Takeback n) = tt

module _ {conditions : Type 0} (desk : ℕ) (g : GameState) (moment seat : ℕ) (offer : Offer)
    (timely : conditions → moment ≤ 2 ^ 48) where
  stood_follows : Follows conditions g (stood desk g seat moment offer)
  stood_follows =
      let effect = offering g.offers seat offer in
      let after : GameState = with_offers effect.after moment g in
      let ends : GameState = game_agreed desk after moment seat offer in
      either effect.reply
      (and_then (offers_follow moment timely g effect.after g.tally)
      (and_then (agreed_follows moment timely desk after seat offer) (count_follows ends seat)))
      (told_follows moment timely g effect.after seat (offer_item g seat offer) (offer_item-names g seat offer))

  claim_follows : (cause : Option Why) → IfSome cause (λ c. FitsWhy c None)
      → Follows conditions g (claim_effect desk g seat moment offer cause).after
  claim_follows None names = stood_follows
  claim_follows (Some cause) names = ended_follows g moment timely desk (end_without_winner seat cause) names

pub Keeps-make_effect : (desk : ℕ) (g : GameState) (session moment : ℕ) (offer : Offer)
    → Keeps g moment (Unit {0}) true (make_effect desk g session moment offer)
Keeps-make_effect desk g session moment offer = record {
  step = if_there (λ seat. (fitting_effect desk g seat moment offer).after) (seat_of g session) stays (λ seat.
      claim_follows desk g moment seat offer (λ c. c.0) (claimed g.boards seat offer)
      (claimed_names g.boards seat offer));
  tells = λ s. tt;
  memory = refl;
}
