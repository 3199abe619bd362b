-- What a store is to hold, and what save orders do to it. This server's own.
use Rattle.std.specs.Prelude.{◌≡◌, ℕ, ◌<◌, ◌^◌, nat_le, Bool, if◌then◌else◌, List, [], ◌∷◌, ◌++◌, Option, None, Some, bytes_eq, length}
use Rattle.std.specs.List.{filter, find}
use Rattle.fics_words.specs.Handle.{key_of}
use Rattle.fics_words.specs.declared.account.Account.{Account}
use Rattle.game_records.specs.Keys.{account_key, game_key}
use Rattle.game_records.specs.Spelling.{spelling}
use Rattle.game_records.specs.declared.records.Record.TheVariants as a
use Rattle.game_records.specs.declared.stored_game.StoredGame.{StoredGame}
use Rattle.lobby_shelf.specs.declared.order.Order.{Order}
use Rattle.lobby_shelf.specs.declared.shelved.Shelved.{Shelved}
use Rattle.lobby_shelf.specs.Facts.{IsShelf}
use Rattle.lobby_shelf.specs.Shelf.{ShelfState, account_order, most_stored, ordered, saved, shelved, taken_off}

-- what a store holds under each key, if anything
abbrev pub StoreMap : Type 0
StoreMap = List ℕ → Option (List ℕ)

-- the account that the store knows by this key
abbrev pub is_account_at : List ℕ → Account → Bool
is_account_at key account = bytes_eq (account_key (key_of account.name)) key

-- the game that the store knows by this key
abbrev pub is_game_at : List ℕ → Shelved → Bool
is_game_at key row = bytes_eq (game_key row.number) key

-- the record of an account, if there is one
abbrev pub account_record : Option Account → Option (List ℕ)
account_record None = None
account_record (Some account) = Some (spelling (a.Account account))

-- the record of a stored game, if there is one
abbrev pub game_record : Option Shelved → Option (List ℕ)
game_record None = None
game_record (Some row) = Some (spelling (a.Game row.game))

-- the first record that is there
abbrev pub either_record : Option (List ℕ) → Option (List ℕ) → Option (List ℕ)
either_record None other = other
either_record (Some bytes) other = Some bytes

-- what a store is to hold for these accounts and stored games: each under its own key, and nothing else
abbrev pub wanted : List Account → List Shelved → StoreMap
wanted accounts games key =
    either_record (account_record (find (is_account_at key) accounts)) (game_record (find (is_game_at key) games))

-- the table once an order is carried out: under the order's key stands its record, or nothing where it has none
abbrev pub with_order : StoreMap → Order → StoreMap
with_order table order key = if bytes_eq order.key key then order.bytes else table key

-- the table once these orders are carried out, one after another
abbrev pub table_with : StoreMap → List Order → StoreMap
table_with table [] = table
table_with table (order ∷ orders) = table_with (with_order table order) orders

-- the table agrees with these accounts and this shelf: once the orders that stand are carried out it holds what it is
-- to hold
abbrev pub Agrees : StoreMap → List Account → ShelfState → Type 0
Agrees table accounts shelf = (key : List ℕ) → table_with table shelf.orders key ≡ wanted accounts shelf.games key

-- the orders that stand and have a number up to this one
abbrev pub told_up_to : ShelfState → ℕ → List Order
told_up_to shelf upto = filter (λ order. nat_le order.number upto) shelf.orders

-- each change makes the order that leads the store along. A table that agrees with the accounts and the shelf agrees
-- with them after a new account and its order, after a game that goes on the shelf, and after one that is taken off.
-- Once a store has carried out the orders up to a number, and they are told as saved, it still agrees; and to carry
-- some of the first orders out twice, as after a failure, leads to the same
pub record OrdersLead : Type 0 where
  pub account : (table : StoreMap) (accounts : List Account) (shelf : ShelfState) (account : Account)
      → find (is_account_at (account_key (key_of account.name))) accounts ≡ None → Agrees table accounts shelf
      → Agrees table (accounts ++ account ∷ []) (ordered shelf (account_order shelf account))
  pub goes_on : (table : StoreMap) (accounts : List Account) (shelf : ShelfState) (game : StoredGame) → IsShelf shelf
      → length shelf.games < most_stored → Agrees table accounts shelf → Agrees table accounts (shelved shelf game)
  pub comes_off : (table : StoreMap) (accounts : List Account) (shelf : ShelfState) (number : ℕ) → IsShelf shelf
      → number < 2 ^ 64 → Agrees table accounts shelf → Agrees table accounts (taken_off shelf number)
  pub saved : (table : StoreMap) (accounts : List Account) (shelf : ShelfState) (upto : ℕ) → IsShelf shelf
      → Agrees table accounts shelf → Agrees (table_with table (told_up_to shelf upto)) accounts (saved shelf upto)
  pub again : (table : StoreMap) (first rest : List Order) (key : List ℕ)
      → table_with (table_with table first) (first ++ rest) key ≡ table_with table (first ++ rest) key
