-- What a lobby is that was loaded from a store. This server's own.
use Rattle.std.specs.Prelude.{◌≡◌, ◌↔◌, ℕ, Bool, true, List, [], length, All, None, count_by, refl, replicate}
use Rattle.std.specs.FinMap as map
use Rattle.fics_words.specs.declared.account.Account.{Account}
use Rattle.edge_traits.specs.Pairs.{Pairs, Records}
use Rattle.game_records.specs.Spelling.{IsSpelled, spelling}
use Rattle.game_records.specs.declared.records.Record.TheVariants as a
use Rattle.lobby_shelf.specs.Shelf.{empty}
use Rattle.lobby_shelf.specs.declared.shelved.Shelved.{Shelved}
use Rattle.lobby_state.specs.Desks.{desks}
use Rattle.lobby_state.specs.Lobby.{LobbyState, opening}
use Rattle.lobby_store.specs.Agreeing.{wanted_by}
use Rattle.lobby_store.specs.Carrying.{held}
use Rattle.lobby_load.specs.BadRows.{IsAccount, IsRowOfGame, Row}

-- the lobby holds what the table holds: under each key it wants the record that stands there, and nothing where none
-- does
abbrev pub HasLoaded : Records → LobbyState → Type 0
HasLoaded table lobby = (key : List ℕ) → wanted_by lobby key ≡ held table key

-- a lobby at its opening that has these accounts and these stored games
abbrev pub opening_with : List Account → List Shelved → LobbyState
opening_with accounts games = record opening { accounts = accounts; shelf = record empty { games = games } }

example_of_none : opening_with [] [] ≡ opening
example_of_none = refl

-- nobody is there, no desk is in use, no save order stands, and but for its accounts and its stored games the lobby is
-- as it is at its opening
pub record IsAtOpening (lobby : LobbyState) : Type 0 where
  pub nobody : lobby.members ≡ []
  pub no_game : lobby.games ≡ replicate desks None
  pub no_orders : lobby.shelf.orders ≡ []
  pub else_opening : lobby ≡ opening_with lobby.accounts lobby.shelf.games

-- each account and each stored game has its own record: the bytes that a store has for it are those of this value
pub record AreSpelled (lobby : LobbyState) : Type 0 where
  pub accounts : All (λ account. IsSpelled (a.Account account) (spelling (a.Account account))) lobby.accounts
  pub games : All (λ row. IsSpelled (a.Game row.game) (spelling (a.Game row.game))) lobby.shelf.games

-- so many of the rows are of this kind
pub record HasCount (IsOfKind : Row → Type 0) (count : ℕ) (rows : Pairs) : Type 0 where
  pub pick : Row → Bool
  pub kind : All (λ row. (pick row ≡ true) ↔ IsOfKind row) rows
  pub many : count_by pick rows ≡ count

-- the lobby has as many accounts, and as many stored games, as the table has rows of them
pub record HasSizes (table : Records) (lobby : LobbyState) : Type 0 where
  pub accounts : HasCount IsAccount (length lobby.accounts) (map.entries table)
  pub games : HasCount IsRowOfGame (length lobby.shelf.games) (map.entries table)
