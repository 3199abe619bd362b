-- The shelf: the stored games, the save orders and the requests to resume. This server's own.
use Rattle.std.specs.Prelude.{ℕ, ◌+◌, ◌==◌, nat_lt, Bool, true, false, not, ◌&&◌, List, [], ◌∷◌, ◌++◌, Option, None, Some, is_some, take}
use Rattle.std.specs.List.{filter, list_any}
use Rattle.fics_words.specs.Handle.{key_of}
use Rattle.fics_words.specs.Seats.{seat_list, seat_number}
use Rattle.fics_words.specs.declared.account.Account.{Account}
use Rattle.fics_words.specs.declared.seats.Seats.{Seats}
use Rattle.game_records.specs.Keys.{account_key, game_key}
use Rattle.game_records.specs.Spelling.{spelling}
use Rattle.game_records.specs.declared.records.Record.TheVariants as a
use Rattle.game_records.specs.declared.stored_game.StoredGame.{StoredGame}
use Rattle.lobby_shelf.specs.declared.order.Order.{Order}
use Rattle.lobby_shelf.specs.declared.request.Request.{Request}
use Rattle.lobby_shelf.specs.declared.shelved.Shelved.{Shelved}
use Rattle.lobby_shelf.specs.Numbers.{next_number, with_game, without_game}

-- the stored games in the order of their numbers; the save orders that aren't told as saved, in the order in which they
-- were made; how many orders were made, which is the number of the last one; and the requests, the newest last
pub record ShelfState : Type 0 where
  pub games : List Shelved
  pub orders : List Order
  pub made : ℕ
  pub requests : List Request

-- the most games that are stored
abbrev pub most_stored : ℕ
most_stored = 10000

-- a shelf at its opening
abbrev pub empty : ShelfState
empty = record { games = []; orders = []; made = 0; requests = [] }

-- the shelf with a game that was kept elsewhere, under its number there. A store has it already, so there is no order
abbrev pub with_stored : ShelfState → ℕ → StoredGame → ShelfState
with_stored shelf number game =
    record shelf { games = with_game (record { number = number; game = game }) shelf.games }

-- the order that is made next: to put the record under the key, or without a record to remove the key
abbrev pub next_order : ShelfState → List ℕ → Option (List ℕ) → Order
next_order shelf key bytes = record { number = shelf.made + 1; key = key; bytes = bytes }

-- the order that puts an account into the store
abbrev pub account_order : ShelfState → Account → Order
account_order shelf account =
    next_order shelf (account_key (key_of account.name)) (Some (spelling (a.Account account)))

-- the order that puts a game into the store, under the number that it gets on the shelf
abbrev pub game_order : ShelfState → StoredGame → Order
game_order shelf game = next_order shelf (game_key (next_number shelf.games)) (Some (spelling (a.Game game)))

-- the order that removes a game from the store
abbrev pub removal_order : ShelfState → ℕ → Order
removal_order shelf number = next_order shelf (game_key number) None

-- the shelf with one order more
abbrev pub ordered : ShelfState → Order → ShelfState
ordered shelf order = record shelf { orders = shelf.orders ++ order ∷ []; made = shelf.made + 1 }

-- the shelf with one game more, under the least positive number that no stored game has, and with its order
abbrev pub shelved : ShelfState → StoredGame → ShelfState
shelved shelf game =
    ordered (with_stored shelf (next_number shelf.games) game) (game_order shelf game)

-- the shelf without the game of that number and without the requests for it, and with the order that removes it
abbrev pub taken_off : ShelfState → ℕ → ShelfState
taken_off shelf number = ordered
    (record shelf {
      games = without_game number shelf.games;
      requests = filter (λ request. not (request.game == number)) shelf.requests;
    })
    (removal_order shelf number)

-- how many orders are told at once
abbrev pub orders_at_once : ℕ
orders_at_once = 16

-- the orders that are told: the first ones
abbrev pub orders_told : ShelfState → List Order
orders_told shelf = take orders_at_once shelf.orders

-- the shelf where the orders up to this number are told as saved
abbrev pub saved : ShelfState → ℕ → ShelfState
saved shelf upto = record shelf { orders = filter (λ order. nat_lt upto order.number) shelf.orders }

-- this session asks to resume this game
abbrev pub is_request : ℕ → ℕ → Request → Bool
is_request by game request = (request.by == by) && (request.game == game)

-- the session's request for that game stands
abbrev pub asks : ShelfState → ℕ → ℕ → Bool
asks shelf by game = list_any (is_request by game) shelf.requests

-- the requests with one more, unless it stands already
abbrev pub with_request : Bool → List Request → Request → List Request
with_request true requests new = requests
with_request false requests new = requests ++ new ∷ []

-- the shelf where the session's request for that game stands
abbrev pub asked : ShelfState → ℕ → ℕ → ShelfState
asked shelf by game = record shelf {
  requests = with_request (asks shelf by game) shelf.requests (record { by = by; game = game });
}

-- the shelf without the requests of this session
abbrev pub without_requests : ℕ → ShelfState → ShelfState
without_requests session shelf =
    record shelf { requests = filter (λ request. not (request.by == session)) shelf.requests }

-- the request is by a player of the game that starts
abbrev pub is_by_seated : Seats → Request → Bool
is_by_seated seats request = is_some (seat_number request.by (seat_list seats))

-- the shelf without the requests of those who are seated
abbrev pub without_seated : Seats → ShelfState → ShelfState
without_seated seats shelf =
    record shelf { requests = filter (λ request. not (is_by_seated seats request)) shelf.requests }
