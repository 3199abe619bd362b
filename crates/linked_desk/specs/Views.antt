-- What is shown of a game: a line for each of its boards, and the feed with one item more.
use Rattle.std.specs.Prelude.{ℕ, [], ◌∷◌, ◌++◌, List, Option, Some, None, slice_get}
use Rattle.chess_model.specs.declared.man.Colour.TheVariants.{White, Black}
use Rattle.fics_words.specs.declared.seats.Opponents.{Opponents}
use Rattle.style12_writer.specs.declared.item.Item.{Item}
use Rattle.style12_writer.specs.declared.item.Item.TheVariants as item
use Rattle.style12_writer.specs.declared.view.BoardView.{BoardView}
use Rattle.game_board.specs.Board.{Board}
use Rattle.game_board.specs.BoardFace.{board_face, last_taken}
use Rattle.game_board.specs.Charges.{remaining_of}
use Rattle.fics_words.specs.Boards.{board_place}
use Rattle.fics_words.specs.declared.board_number.BoardNumber.{BoardNumber}
use Rattle.linked_desk.specs.Desk.{GameState, game_number}
use Rattle.linked_desk.specs.Seats.{pairs_of}

-- all that the board line of a game shows: the clocks are the ledgers', without time that is running
unfoldable pub view_of : ℕ → Opponents → Board → BoardView
view_of desk players board = record {
  face = board_face board;
  game = game_number desk board.number;
  white = players.white.name;
  black = players.black.name;
  minutes = board.terms.minutes;
  increment = board.terms.increment;
  remaining = remaining_of board White ∷ remaining_of board Black ∷ [];
  taken = last_taken board.list;
}

-- something of each board and its two players, in the order of the boards
abbrev pub each_board : {T : Type 0} → (Opponents → Board → T) → List Opponents → List Board → List T
each_board of [] boards = []
each_board of (players ∷ pairs) [] = []
each_board of (players ∷ pairs) (board ∷ boards) = of players board ∷ each_board of pairs boards

-- the views of a game's boards
abbrev pub views_of : ℕ → GameState → List BoardView
views_of desk g = each_board (view_of desk) (pairs_of g.seats) g.boards

-- the game with more items in its feed
abbrev pub with_items : GameState → List Item → GameState
with_items g items = record g { feed = g.feed ++ items }

-- the game with one item more, if there is one
abbrev pub game_with_item : GameState → Option Item → GameState
game_with_item g None = g
game_with_item g (Some x) = with_items g (x ∷ [])

-- a feed with one item more, if there is one
abbrev pub feed_with : List Item → Option Item → List Item
feed_with feed None = feed
feed_with feed (Some x) = feed ++ x ∷ []

-- the game with a board as the last item
abbrev pub with_view : GameState → Option BoardView → GameState
with_view g None = g
with_view g (Some view) = with_items g (item.Board view ∷ [])

-- the game with a board as the last item, if it has it
abbrev pub with_board_item : ℕ → BoardNumber → GameState → GameState
with_board_item desk board g = with_view g (slice_get (views_of desk g) (board_place board))
