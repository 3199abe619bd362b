-- How a game begins at a desk, from its start or from where it was adjourned.
use Rattle.std.specs.Prelude.{◌≡◌, ◌≢◌, ◌*◌, ℕ, [], ◌∷◌, ◌++◌, flat_map, length, map, List, Some, None, option_map, option_to_list}
use Rattle.fics_words.specs.Handle.{key_of}
use Rattle.chess_model.specs.declared.variant.Terms.{Terms}
use Rattle.fics_words.specs.declared.player.Player.{Player}
use Rattle.fics_words.specs.declared.seats.Opponents.{Opponents}
use Rattle.fics_words.specs.declared.seats.Seats.{Seats}
use Rattle.fics_words.specs.Seats.{seat_list}
use Rattle.style12_writer.specs.declared.item.Item.{Item}
use Rattle.style12_writer.specs.declared.item.Item.TheVariants as item
use Rattle.style12_writer.specs.ContinuedLine.{continued_text}
use Rattle.style12_writer.specs.CreatedLine.{created_text}
use Rattle.game_board.specs.Board.{Board}
use Rattle.offer_book.specs.Offers.{no_offers}
use Rattle.observer_feed.specs.declared.cursor.Cursor.{Cursor}
use Rattle.game_records.specs.Bounds.{AreStoredTerms}
use Rattle.desk_boards.specs.Boards.{board_numbers, new_boards}
use Rattle.linked_desk.specs.declared.occasion.Occasion.{Occasion}
use Rattle.linked_desk.specs.declared.occasion.Occasion.TheVariants.{Start, Resumption}
use Rattle.linked_desk.specs.Desk.{GameState, DeskState, game_number}
use Rattle.linked_desk.specs.Hands.{first_hands}
use Rattle.linked_desk.specs.Seats.{pairs_of}
use Rattle.linked_desk.specs.Tally.{none_told}
use Rattle.linked_desk.specs.Views.{view_of, each_board}

-- each item differs from this one
abbrev pub NoneIs : {T : Type 0} → T → List T → Type 0
NoneIs x [] = Unit {0}
NoneIs x (y ∷ ys) = (x ≢ y) × NoneIs x ys

-- no two items are the same
abbrev pub AllDiffer : {T : Type 0} → List T → Type 0
AllDiffer [] = Unit {0}
AllDiffer (x ∷ xs) = NoneIs x xs × AllDiffer xs

-- the sessions of the players, and their names without regard to capitals
abbrev pub sessions_seated : Seats → List ℕ
sessions_seated seats = map (λ (p : Player). p.session) (seat_list seats)

abbrev pub names_of : Seats → List (List ℕ)
names_of seats = map (λ (p : Player). key_of p.name) (seat_list seats)

-- two players sit at each board of the variant, so there is a second pair exactly for bughouse
abbrev pub HasPairsFor : Terms → Seats → Type 0
HasPairsFor terms seats = length (seat_list seats) ≡ 2 * length (board_numbers terms.variant)

-- the terms without the colour that somebody asked for
abbrev pub uncoloured : Terms → Terms
uncoloured t = record t { colour = None }

-- players may play a game on these terms: they are as many as its boards want, no two have one name, and the terms are
-- such that the game can be kept
pub record MayPlay (terms : Terms) (seats : Seats) : Type 0 where
  pub pairs : HasPairsFor terms seats
  pub names : AllDiffer (names_of seats)
  pub fit : AreStoredTerms (uncoloured terms)

-- a viewer from the start of the feed
abbrev pub from_start : Player → Cursor
from_start player = record { session = player.session; seen = 0 }

-- the text that tells that a game begins
abbrev pub news : Occasion → ℕ → List ℕ → List ℕ → Terms → List ℕ
news Start game white black terms = created_text game white black terms
news Resumption game white black terms = continued_text game white black terms

-- the line that tells that a game begins at the board of that number
abbrev pub announcement : Occasion → ℕ → Terms → ℕ → Opponents → Item
announcement occasion desk terms number players =
    item.Talk (news occasion (game_number desk number) players.white.name players.black.name terms)

-- that line for a board and its players
abbrev pub announced_board : Occasion → ℕ → Terms → Opponents → Board → Item
announced_board occasion desk terms players board = announcement occasion desk terms board.number players

-- and those for each pair of players, of which the first sits at board 1, and the second at board 2
abbrev pub announcements : Occasion → ℕ → Terms → Seats → List Item
announcements occasion desk terms seats =
    announcement occasion desk terms 1 seats.first
    ∷ option_to_list (option_map (announcement occasion desk terms 2) seats.second)

-- the first line of a board
abbrev pub board_item : ℕ → Opponents → Board → Item
board_item desk players board = item.Board (view_of desk players board)

-- what is shown of a board at the beginning: the board, and its hands where the variant has them
abbrev pub first_items : ℕ → Opponents → Board → List Item
first_items desk players board = board_item desk players board ∷ option_to_list (first_hands desk board)

-- and of each board
abbrev pub shown_items : ℕ → List Opponents → List Board → List Item
shown_items desk pairs boards = flat_map (λ items. items) (each_board (first_items desk) pairs boards)

-- what is told of the beginning: a line for each board, and then each board with its hands
abbrev pub opening_items : Occasion → ℕ → Terms → List Opponents → List Board → List Item
opening_items occasion desk terms pairs boards =
    each_board (announced_board occasion desk terms) pairs boards ++ shown_items desk pairs boards

-- a game that begins at this moment at these boards, where that is told: the players are its viewers from the start
abbrev pub game_begins_at : ℕ → Terms → Seats → List Board → List Item → ℕ → GameState
game_begins_at serial terms seats boards feed moment = record {
  serial = serial;
  terms = terms;
  seats = seats;
  boards = boards;
  feed = feed;
  viewers = map from_start (seat_list seats);
  remarks = 0;
  last = moment;
  ended = None;
  offers = no_offers (length (seat_list seats));
  tally = none_told;
}

-- and so that its players are told what is told then
abbrev pub game_begun : Occasion → ℕ → ℕ → Terms → Seats → List Board → ℕ → GameState
game_begun occasion desk serial terms seats boards moment =
    game_begins_at serial terms seats boards (opening_items occasion desk terms (pairs_of seats) boards) moment

-- a game that begins at its start
abbrev pub game_opened : ℕ → ℕ → Terms → Seats → ℕ → GameState
game_opened desk serial terms seats moment = game_begun Start desk serial terms seats (new_boards terms moment) moment

-- the desk with that game
abbrev pub desk_started : DeskState → ℕ → Terms → Seats → ℕ → DeskState
desk_started d serial terms seats moment = record d { game = Some (game_opened d.number serial terms seats moment) }
