-- What contracts see of a desk: it is vacant, or a game is played at it.
use Rattle.std.specs.Prelude.{ℕ, ◌+◌, ◌-◌, ◌*◌, Bool, is_some, max, List, [], length, Option}
use Rattle.std.specs.Option.{option_map, option_and_then, option_map_or}
use Rattle.chess_model.specs.declared.variant.Terms.{Terms}
use Rattle.fics_words.specs.declared.seats.Seats.{Seats}
use Rattle.fics_words.specs.Seats as sitting
use Rattle.fics_words.specs.Seats.{seat_list, seat_number}
use Rattle.offer_book.specs.Offers.{OfferBook}
use Rattle.style12_writer.specs.declared.item.Item.{Item}
use Rattle.game_board.specs.Board.{Board}
use Rattle.observer_feed.specs.declared.cursor.Cursor.{Cursor}
use Rattle.observer_feed.specs.Feed.{ahead, is_viewer}
use Rattle.linked_desk.specs.declared.ended.Ended.{Ended}

-- a game at a desk
pub record GameState : Type 0 where
  pub serial : ℕ
  pub terms : Terms
  pub seats : Seats
  -- one board, or two in bughouse
  pub boards : List Board
  -- what the viewers are told, the oldest first
  pub feed : List Item
  pub viewers : List Cursor
  -- how many remarks there were
  pub remarks : ℕ
  -- the moment of the last act, in milliseconds
  pub last : ℕ
  pub ended : Option Ended
  -- the offers that stand, and how many offers and declines each seat has made
  pub offers : OfferBook
  pub tally : List ℕ

-- a desk
pub record DeskState : Type 0 where
  pub number : ℕ
  pub game : Option GameState

-- the number under which a board at a desk is shown
abbrev pub game_number : ℕ → ℕ → ℕ
game_number desk board = 2 * (desk - 1) + board

-- two boards belong to the game
abbrev pub is_pair : GameState → Bool
is_pair g = is_some g.seats.second

-- each player has an account
abbrev pub are_registered : GameState → Bool
are_registered g = sitting.all_registered g.seats

-- the seat of a session, if it plays
abbrev pub seat_of : GameState → ℕ → Option ℕ
seat_of g session = seat_number session (seat_list g.seats)

-- whether a session is a viewer of the game
abbrev pub is_watching : GameState → ℕ → Bool
is_watching g session = is_viewer g.viewers session

-- the items that a session hasn't been given yet
abbrev pub ahead_of : GameState → ℕ → List Item
ahead_of g session = ahead g.feed g.viewers session

-- an act's moment counts as no earlier than that of the last act
abbrev pub moment_at : GameState → ℕ → ℕ
moment_at g moment = max g.last moment

-- the serial of the game at a desk
abbrev pub serial_of : DeskState → Option ℕ
serial_of d = option_map (λ (g : GameState). g.serial) d.game

-- how the game at a desk ended
abbrev pub ended_at : DeskState → Option Ended
ended_at d = option_and_then (λ (g : GameState). g.ended) d.game

-- how many viewers the game at a desk has
abbrev pub viewer_count : DeskState → ℕ
viewer_count d = option_map_or (λ (g : GameState). length g.viewers) d.game 0

-- the boards at a desk
abbrev pub boards_at : DeskState → List Board
boards_at d = option_map_or (λ (g : GameState). g.boards) d.game []

-- the items at a desk that a session hasn't been given yet
abbrev pub items_for : DeskState → ℕ → List Item
items_for d session = option_map_or (λ (g : GameState). ahead_of g session) d.game []

-- who plays at a desk: what a list of the games in use has to say of it
pub record Occupant : Type 0 where
  pub serial : ℕ
  pub terms : Terms
  pub seats : Seats

-- who plays a game
abbrev pub occupant : GameState → Occupant
occupant g = record { serial = g.serial; terms = g.terms; seats = g.seats }

-- who plays at a desk, if it isn't vacant
abbrev pub occupant_of : DeskState → Option Occupant
occupant_of d = option_map occupant d.game
