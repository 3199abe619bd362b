-- The offers of players at a desk: what is told of them, and what an offer does that every seat has made.
use Rattle.std.specs.Prelude.{ℕ, ◌∷◌, [], List, Option, None, slice_get}
use Rattle.std.specs.Option.{option_map, option_and_then}
use Rattle.chess_model.specs.declared.why.Why.{Why}
use Rattle.chess_model.specs.declared.why.Why.TheVariants as why
use Rattle.fics_words.specs.Effect.{Cause}
use Rattle.fics_words.specs.declared.player.Player.{Player}
use Rattle.fics_words.specs.declared.refusal.Refusal.TheVariants.{FeedFull}
use Rattle.fics_words.specs.Seats.{seat_list}
use Rattle.offer_book.specs.declared.offer.Offer.{Offer}
use Rattle.offer_book.specs.declared.offer.Offer.TheVariants.{Draw, Abort, Adjourn, Takeback}
use Rattle.offer_book.specs.Offers.{OfferBook}
use Rattle.style12_writer.specs.OfferLines.{abort_text, adjourn_text, decline_text, draw_text, takeback_text, taken_text}
use Rattle.style12_writer.specs.declared.item.Item.{Item}
use Rattle.style12_writer.specs.declared.item.Item.TheVariants as item
use Rattle.linked_desk.specs.declared.ended.Ended.{Ended}
use Rattle.fics_words.specs.Boards.{board_place}
use Rattle.fics_words.specs.declared.board_number.BoardNumber.TheVariants.{First}
use Rattle.desk_boards.specs.TakenBack.{boards_taken_back}
use Rattle.linked_desk.specs.Desk.{GameState, moment_at}
use Rattle.linked_desk.specs.Ends.{ended_by}
use Rattle.linked_desk.specs.Hands.{first_hands}
use Rattle.linked_desk.specs.Seats.{board_of}
use Rattle.linked_desk.specs.Tally.{counted, is_told_out}
use Rattle.linked_desk.specs.Views.{with_board_item, game_with_item, with_items}

-- the line of an offer by the player of this name
abbrev pub offer_text : List ℕ → Offer → List ℕ
offer_text name Draw = draw_text name
offer_text name Abort = abort_text name
offer_text name Adjourn = adjourn_text name
offer_text name (Takeback n) = takeback_text name n

-- what is told where the player of a seat offers
abbrev pub offer_item : GameState → ℕ → Offer → Option Item
offer_item g seat offer =
    option_map (λ (p : Player). item.Talk (offer_text p.name offer)) (slice_get (seat_list g.seats) seat)

-- and where the player declines
abbrev pub decline_item : GameState → ℕ → Option Item
decline_item g seat = option_map (λ (p : Player). item.Talk (decline_text p.name)) (slice_get (seat_list g.seats) seat)

-- a seat makes offers and declines them no more than so often in all
abbrev pub told_out_cause : GameState → ℕ → Cause
told_out_cause g seat = (is_told_out g.tally seat, FeedFull)

-- the game where these offers stand, since an act of that moment
abbrev pub with_offers : OfferBook → ℕ → GameState → GameState
with_offers offers moment g = record g { offers = offers; last = moment_at g moment }

-- the game where a seat has told what changed the offers to these
abbrev pub offers_told : OfferBook → ℕ → ℕ → Option Item → GameState → GameState
offers_told offers seat moment x g =
    game_with_item (record g { offers = offers; tally = counted g.tally seat; last = moment_at g moment }) x

-- the game where a seat has made one offer more of those that it may make
abbrev pub with_count : ℕ → GameState → GameState
with_count seat g = record g { tally = counted g.tally seat }

-- how the game ends where a seat's act makes it end so, and nobody wins
abbrev pub end_without_winner : ℕ → Why → Ended
end_without_winner seat cause = record { why = cause; board = board_of seat; winner = None }

-- the game after the last n half-moves of its first board were taken back
abbrev pub with_taken : GameState → ℕ → ℕ → GameState
with_taken g moment n =
    record g { boards = boards_taken_back g.boards n (moment_at g moment); last = moment_at g moment }

-- the hands of the first board, where its variant has hands
abbrev pub hands_shown : ℕ → GameState → GameState
hands_shown desk g = game_with_item g (option_and_then (first_hands desk) (slice_get g.boards (board_place First)))

-- the game after the last n half-moves of its board were taken back: that is told, and then the board with its hands
abbrev pub moves_taken_back : ℕ → GameState → ℕ → ℕ → GameState
moves_taken_back desk g moment n =
    hands_shown desk (with_board_item desk First (with_items (with_taken g moment n) (item.Talk (taken_text n) ∷ [])))

-- the game once every seat has made an offer, the last one by this seat
abbrev pub game_agreed : ℕ → GameState → ℕ → ℕ → Offer → GameState
game_agreed desk g moment seat Draw = ended_by desk g moment (end_without_winner seat why.Agreed)
game_agreed desk g moment seat Abort = ended_by desk g moment (end_without_winner seat why.Aborted)
game_agreed desk g moment seat Adjourn = ended_by desk g moment (end_without_winner seat why.Adjourned)
game_agreed desk g moment seat (Takeback n) = moves_taken_back desk g moment n
