-- What is shown of a game as it stands. This server's own.
use Rattle.std.specs.Prelude.{ℕ, List, flat_map}
use Rattle.style12_writer.specs.declared.item.Item.{Item}
use Rattle.linked_desk.specs.Desk.{GameState}
use Rattle.linked_desk.specs.Seating.{board_item, first_items}
use Rattle.linked_desk.specs.Seats.{pairs_of}
use Rattle.linked_desk.specs.Views.{each_board}

-- the boards
abbrev pub present_boards : ℕ → GameState → List Item
present_boards desk g = each_board (board_item desk) (pairs_of g.seats) g.boards

-- the boards, each with its hands behind it where the variant has them
abbrev pub present_items : ℕ → GameState → List Item
present_items desk g = flat_map (λ items. items) (each_board (first_items desk) (pairs_of g.seats) g.boards)
