-- The games that a store has. This server's own.
use Rattle.std.specs.Prelude.{◌≡◌, ◌↔◌, ℕ, List, Some, None, All, Contains}
use Rattle.std.specs.declared.option.Option.{Option}
use Rattle.edge_traits.specs.Pairs.{Records}
use Rattle.game_records.specs.Replays.{Replays}
use Rattle.lobby_shelf.specs.declared.shelved.Shelved.{Shelved}
use Rattle.lobby_shelf.specs.Numbers.{AreInOrder}
use Rattle.lobby_store.specs.Carrying.{held}
use Rattle.lobby_store.specs.Rows.{IsGameRow}
use Rattle.lobby_load.specs.BadRows.{IsGoodStore}

-- the table has the game: a pair of it is the game's record, under the key of the game's number
pub record HasGame (table : Records) (row : Shelved) : Type 0 where
  pub pair : List ℕ × List ℕ
  pub there : held table pair.0 ≡ Some pair.1
  pub is : IsGameRow row.number row.game pair

-- these are the games of the table, all of them and no others, in ascending order of their numbers
pub record AreGamesOf (table : Records) (games : List Shelved) : Type 0 where
  pub order : AreInOrder games
  pub exactly : (row : Shelved) → Contains games row ↔ HasGame table row

-- a table has one such list
abbrev pub HasOneList : Type 0
HasOneList = (table : Records) (one other : List Shelved) → AreGamesOf table one → AreGamesOf table other → one ≡ other

-- games that some store can have, in ascending order of their numbers
pub record CanBeStored (games : List Shelved) : Type 0 where
  pub order : AreInOrder games
  pub replay : All (λ row. Replays row.game) games

-- the games of a keeper's store, which is good: where the keeper tells its table they are the games of that table
abbrev pub AreStoreGames : Option Records → List Shelved → Type 0
AreStoreGames None games = CanBeStored games
AreStoreGames (Some table) games = IsGoodStore table × AreGamesOf table games
