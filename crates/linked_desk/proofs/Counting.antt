-- How many offers each seat has made, where an offer takes effect: the effect itself counts none.
use Rattle.std.proofs.Common.{◌≡◌, ◌<◌, ℕ, false, List, [], ◌∷◌, Option, Some, None, refl, ◌∙◌, rules}
use Rattle.std.specs.Prelude.{slice_get}
use Rattle.std.specs.Option.{option_and_then}
use Rattle.offer_book.specs.declared.offer.Offer.{Offer}
use Rattle.offer_book.specs.declared.offer.Offer.TheVariants.{Draw, Abort, Adjourn, Takeback}
use Rattle.style12_writer.specs.OfferLines.{taken_text}
use Rattle.style12_writer.specs.declared.item.Item.{Item}
use Rattle.style12_writer.specs.declared.item.Item.TheVariants as item
use Rattle.style12_writer.specs.declared.view.BoardView.{BoardView}
use Rattle.fics_words.specs.declared.board_number.BoardNumber.TheVariants.{First}
use Rattle.linked_desk.specs.Desk.{GameState}
use Rattle.linked_desk.specs.Hands.{first_hands}
use Rattle.linked_desk.specs.Offering.{game_agreed, with_taken}
use Rattle.linked_desk.specs.Tally.{count_of, is_told_out}
use Rattle.linked_desk.specs.Views.{views_of, with_board_item, game_with_item, with_items, with_view}

tally_item : (g : GameState) (x : Option Item) → (game_with_item g x).tally ≡ g.tally
tally_item g None = refl
tally_item g (Some x) = refl

tally_view : (g : GameState) (view : Option BoardView) → (with_view g view).tally ≡ g.tally
tally_view g None = refl
tally_view g (Some view) = refl

pub agreed_tally : (desk : ℕ) (g : GameState) (moment seat : ℕ) (offer : Offer)
    → (game_agreed desk g moment seat offer).tally ≡ g.tally
agreed_tally desk g moment seat Draw = refl
agreed_tally desk g moment seat Abort = refl
agreed_tally desk g moment seat Adjourn = refl
agreed_tally desk g moment seat (Takeback n) =
    let line : GameState = with_items (with_taken g moment n) (item.Talk (taken_text n) ∷ []) in
    let shown : GameState = with_board_item desk First line in
    tally_item shown (option_and_then (first_hands desk) (slice_get shown.boards 0))
    ∙ tally_view line (slice_get (views_of desk line) 0)

-- a seat that may make one more offer has made fewer than 256
pub below_the_most : (tally : List ℕ) (seat : ℕ) → is_told_out tally seat ≡ false → count_of tally seat < 256
below_the_most tally seat e = search rules
