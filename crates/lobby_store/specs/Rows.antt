-- Which pairs of a key and a record are rows of a store. This server's own.
use Rattle.std.specs.Prelude.{◌≡◌, ℕ, ◌<◌, ◌≤◌, ◌^◌, List}
use Rattle.fics_words.specs.Handle.{key_of}
use Rattle.fics_words.specs.declared.account.Account.{Account}
use Rattle.game_records.specs.Keys.{account_key, game_key}
use Rattle.game_records.specs.Replays.{Replays}
use Rattle.game_records.specs.Spelling.{IsSpelled}
use Rattle.game_records.specs.declared.records.Record.TheVariants as a
use Rattle.game_records.specs.declared.stored_game.StoredGame.{StoredGame}
use Rattle.lobby_store.specs.declared.reading.StoreRow.{StoreRow}
use Rattle.lobby_store.specs.declared.reading.StoreRow.TheVariants.{Account as AnAccount, Game as AGame}

-- the record is that of the account, under the key of its name
pub record IsAccountRow (account : Account) (pair : List ℕ × List ℕ) : Type 0 where
  pub spelled : IsSpelled (a.Account account) pair.1
  pub own : pair.0 ≡ account_key (key_of account.name)

-- the record is that of the game, which replays, under the key of a number from 1 on
pub record IsGameRow (number : ℕ) (game : StoredGame) (pair : List ℕ × List ℕ) : Type 0 where
  pub spelled : IsSpelled (a.Game game) pair.1
  pub own : pair.0 ≡ game_key number
  pub positive : 1 ≤ number
  pub small : number < 2 ^ 64
  pub replays : Replays game

-- the pair is this row of a store
abbrev pub IsRow : StoreRow → List ℕ × List ℕ → Type 0
IsRow (AnAccount account) pair = IsAccountRow account pair
IsRow (AGame number game) pair = IsGameRow number game pair

-- the pair is no row of a store
abbrev pub IsNoRow : List ℕ × List ℕ → Type 0
IsNoRow pair = (row : StoreRow) → IsRow row pair → ⊥
