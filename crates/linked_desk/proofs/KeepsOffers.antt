-- What is kept where the offers at a desk change, and where one takes effect.
use Rattle.std.proofs.Common.{ℕ, ◌≤◌, ◌^◌, ◌∷◌, [], Bool, true, false, List, Option, Some, None, IfSome, refl, arith}
use Rattle.std.specs.Prelude.{slice_get, if◌then◌else◌}
use Rattle.std.specs.Option.{option_map, option_and_then}
use Rattle.chess_model.specs.declared.variant.Variant.{Variant}
use Rattle.chess_model.specs.declared.variant.Variant.TheVariants.{Chess, Crazyhouse, Bughouse, Fischer}
use Rattle.chess_model.specs.declared.why.Why.TheVariants as why
use Rattle.fics_words.specs.declared.player.Player.{Player}
use Rattle.fics_words.specs.Seats.{seat_list}
use Rattle.game_board.specs.Board.{Board}
use Rattle.game_board.specs.TakeBack.{has_too_few, board_taken_back}
use Rattle.offer_book.specs.declared.offer.Offer.{Offer}
use Rattle.offer_book.specs.declared.offer.Offer.TheVariants.{Draw, Abort, Adjourn, Takeback}
use Rattle.offer_book.specs.Offers.{OfferBook}
use Rattle.style12_writer.specs.OfferLines.{decline_text, taken_text}
use Rattle.style12_writer.specs.declared.item.Item.{Item}
use Rattle.style12_writer.specs.declared.item.Item.TheVariants as item
use Rattle.fics_words.specs.declared.board_number.BoardNumber.TheVariants.{First}
use Rattle.desk_boards.specs.Boards.{latest}
use Rattle.linked_desk.specs.Desk.{GameState, moment_at}
use Rattle.linked_desk.specs.Hands.{first_hands}
use Rattle.desk_boards.specs.TakenBack.{back_by}
use Rattle.linked_desk.specs.Offering.{game_agreed, decline_item, end_without_winner, offer_item, offer_text, offers_told, with_count, with_taken}
use Rattle.linked_desk.specs.Offering as offering
use Rattle.linked_desk.specs.Sound.{IsSoundGame, NamesWinner}
use Rattle.linked_desk.specs.Tally.{counted}
use Rattle.linked_desk.specs.Views.{views_of, with_board_item, with_items}
use Rattle.desk_boards.proofs.BoardLists.{latest-changed_at}
use Rattle.linked_desk.proofs.Holding.{names_first}
use Rattle.desk_boards.proofs.BackSound.{goes_back, sound_back}
use Rattle.linked_desk.proofs.Keeps.{Follows, IsSound-later, and_then, ended_follows, item_follows, timely_at, view_follows}

-- a line of text is no end
talk_names : (of : Player → List ℕ) (p : Option Player)
    → IfSome (option_map (λ (q : Player). item.Talk (of q)) p) NamesWinner
talk_names of None = tt
talk_names of (Some p) = tt

pub offer_item-names : (g : GameState) (seat : ℕ) (offer : Offer) → IfSome (offer_item g seat offer) NamesWinner
offer_item-names g seat offer = talk_names (λ p. offer_text p.name offer) (slice_get (seat_list g.seats) seat)

pub decline_item-names : (g : GameState) (seat : ℕ) → IfSome (decline_item g seat) NamesWinner
decline_item-names g seat = talk_names (λ p. decline_text p.name) (slice_get (seat_list g.seats) seat)

begin_either : (few : Bool) (b new : Board) (moment : ℕ) → b.begin ≤ moment → new.begin ≤ moment
    → (if few then b else new).begin ≤ moment
begin_either true b new moment h k = h
begin_either false b new moment h k = k

begin_back : (v : Variant) (b : Board) (n moment : ℕ) → b.begin ≤ moment → (back_by v b n moment).begin ≤ moment
begin_back Chess b n moment h = begin_either (has_too_few b n) b (board_taken_back b n moment) moment h (omega arith)
begin_back Crazyhouse b n moment h =
    begin_either (has_too_few b n) b (board_taken_back b n moment) moment h (omega arith)
begin_back (Fischer number) b n moment h =
    begin_either (has_too_few b n) b (board_taken_back b n moment) moment h (omega arith)
begin_back Bughouse b n moment h = h

IsSound-with_taken : (g : GameState) (moment n : ℕ) → moment ≤ 2 ^ 48 → IsSoundGame g
    → IsSoundGame (with_taken g moment n)
IsSound-with_taken g moment n timely s =
    let after : Board → Board = λ b. back_by b.terms.variant b n (moment_at g moment) in
    let early : latest g.boards ≤ moment_at g moment = omega (arith, s.order) in
    record {
      seated = s.seated;
      boards = sound_back g.terms g.boards n (moment_at g moment) s.boards early;
      going = λ runs. goes_back g.terms g.boards n (moment_at g moment) s.boards early (s.going runs);
      order =
          latest-changed_at g.boards 0 (moment_at g moment) after
          (λ b. begin_back b.terms.variant b n (moment_at g moment)) early;
      moment = timely_at g moment timely s;
      winners = s.winners;
      ended = s.ended;
    }

names_hands : (desk : ℕ) (b : Option Board) → IfSome (option_and_then (first_hands desk) b) NamesWinner
names_hands desk None = tt
names_hands desk (Some b) = names_first desk b

module _ {conditions : Type 0} (moment : ℕ) (timely : conditions → moment ≤ 2 ^ 48) where
  -- the game with other offers and counts, since a later moment
  pub offers_follow : (g : GameState) (offers : OfferBook) (tally : List ℕ)
      → Follows conditions g (record g { offers = offers; tally = tally; last = moment_at g moment })
  offers_follow g offers tally = record {
    players = refl;
    sound = λ c s.
        IsSound-later g g.feed g.viewers g.remarks (moment_at g moment) offers tally (omega arith)
        (timely_at g moment (timely c) s) s.winners s;
  }

  pub told_follows : (g : GameState) (offers : OfferBook) (seat : ℕ) (x : Option Item) → IfSome x NamesWinner
      → Follows conditions g (offers_told offers seat moment x g)
  told_follows g offers seat x names = and_then (offers_follow g offers (counted g.tally seat)) (item_follows _ x names)

  taken_back_follows : (desk : ℕ) (g : GameState) (n : ℕ)
      → Follows conditions g (offering.moves_taken_back desk g moment n)
  taken_back_follows desk g n =
      let taken : GameState = with_taken g moment n in
      let line : GameState = with_items taken (item.Talk (taken_text n) ∷ []) in
      let shown : GameState = with_board_item desk First line in
      let back : Follows conditions g taken =
      record { players = refl; sound = λ c s. IsSound-with_taken g moment n (timely c) s } in
      and_then back
      (and_then (item_follows taken (Some (item.Talk (taken_text n))) tt)
      (and_then (view_follows line (slice_get (views_of desk line) 0))
      (item_follows shown (option_and_then (first_hands desk) (slice_get shown.boards 0))
      (names_hands desk (slice_get shown.boards 0)))))

  pub agreed_follows : (desk : ℕ) (g : GameState) (seat : ℕ) (offer : Offer)
      → Follows conditions g (game_agreed desk g moment seat offer)
  agreed_follows desk g seat Draw =
      ended_follows g moment timely desk (end_without_winner seat why.Agreed) (λ e. e, λ e. e)
  agreed_follows desk g seat Abort =
      ended_follows g moment timely desk (end_without_winner seat why.Aborted) (λ e. e, λ e. e)
  agreed_follows desk g seat Adjourn =
      ended_follows g moment timely desk (end_without_winner seat why.Adjourned) (λ e. e, λ e. e)
  agreed_follows desk g seat (Takeback n) = taken_back_follows desk g n

-- how many offers a seat has made is no part of that
pub count_follows : {conditions : Type 0} (g : GameState) (seat : ℕ) → Follows conditions g (with_count seat g)
count_follows g seat = record {
  players = refl;
  sound = λ _ s.
      IsSound-later g g.feed g.viewers g.remarks g.last g.offers (counted g.tally seat) (omega arith) s.moment s.winners
      s;
}
