-- What holds of a shelf at all times. This server's own.
use Rattle.std.specs.Prelude.{◌≡◌, ℕ, ◌<◌, ◌≤◌, ◌^◌, true, false, List, [], ◌∷◌, length, All}
use Rattle.std.specs.List.{list_any}
use Rattle.game_records.specs.Replays.{Replays}
use Rattle.lobby_shelf.specs.declared.order.Order.{Order}
use Rattle.lobby_shelf.specs.declared.request.Request.{Request}
use Rattle.lobby_shelf.specs.Numbers.{AreInOrder, is_used}
use Rattle.lobby_shelf.specs.Shelf.{ShelfState, is_request, most_stored}

-- the numbers of the orders rise, from above the first number up to the last one that was given
abbrev pub OrdersRise : ℕ → ℕ → List Order → Type 0
OrdersRise low made [] = low ≤ made
OrdersRise low made (order ∷ orders) = (low < order.number) × OrdersRise order.number made orders

-- no request stands twice
abbrev pub AreOnce : List Request → Type 0
AreOnce [] = Unit {0}
AreOnce (request ∷ requests) =
    (list_any (is_request request.by request.game) requests ≡ false) × AreOnce requests

-- there are at most 10,000 games, in the order of their numbers, which are from 1 on; each of them replays; the numbers
-- of the orders rise up to the last one that was made; each request is for a game that lies on the shelf, and none
-- stands twice
pub record IsShelf (shelf : ShelfState) : Type 0 where
  pub room : length shelf.games ≤ most_stored
  pub numbers : AreInOrder shelf.games
  pub replay : All (λ row. Replays row.game) shelf.games
  pub orders : OrdersRise 0 shelf.made shelf.orders
  pub requests : All (λ request. is_used shelf.games request.game ≡ true) shelf.requests
  pub once : AreOnce shelf.requests

-- one more can be put behind these, whose cells don't fill all memory that there can be yet
abbrev pub HasRoom : {T : Type 0} → List T → Type 0
HasRoom items = length items < 2 ^ 62
