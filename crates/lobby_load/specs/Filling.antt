-- What becomes of a lobby as the rows of a store are added to it, one after another. This server's own.
use Rattle.std.specs.Prelude.{◌≡◌, ◌⊎◌, ℕ, ◌<◌, ◌≤◌, ◌==◌, Bool, false, List, [], ◌∷◌, length, All, count_by}
use Rattle.std.specs.FinMap.{find}
use Rattle.std.specs.FinMap as map
use Rattle.fics_words.specs.declared.account.Account.{Account}
use Rattle.game_records.specs.declared.stored_game.StoredGame.{StoredGame}
use Rattle.lobby_shelf.specs.Numbers.{AreInOrder}
use Rattle.lobby_shelf.specs.Shelf.{most_stored, with_stored}
use Rattle.edge_traits.specs.Pairs.{Pairs, Records, keys_order}
use Rattle.lobby_state.specs.Lobby.{LobbyState, most_accounts}
use Rattle.lobby_state.specs.Registration.{with_account}
use Rattle.lobby_state.specs.ShelfRoom.{places_taken}
use Rattle.lobby_store.specs.Agreeing.{wanted_by}
use Rattle.lobby_store.specs.Rows.{IsAccountRow, IsGameRow, IsNoRow}
use Rattle.lobby_load.specs.BadRows.{IsAccount, IsRowOfGame, IsLeastBad, Row}
use Rattle.lobby_load.specs.Loaded.{AreSpelled, IsAtOpening}
use Rattle.lobby_load.specs.declared.refusals.LoadRefusal.{LoadRefusal}
use Rattle.lobby_load.specs.declared.refusals.LoadRefusal.TheVariants.{BadRecord, KeeperFault, Memory}
use Rattle.lobby_load.specs.declared.rows.Taken.{Taken}
use Rattle.lobby_load.specs.declared.rows.Taken.TheVariants.{Added, Refused}

-- the key begins with this byte
abbrev pub begins_with : ℕ → List ℕ → Bool
begins_with byte [] = false
begins_with byte (first ∷ rest) = first == byte

-- the key begins as those of accounts do
abbrev pub is_of_account : List ℕ → Bool
is_of_account key = begins_with 0x61 key

-- the key begins as those of games do
abbrev pub is_of_game : List ℕ → Bool
is_of_game key = begins_with 0x67 key

-- how many of the rows have such a key
abbrev pub count_of : (List ℕ → Bool) → Pairs → ℕ
count_of is_of rows = count_by (λ row. is_of row.0) rows

-- the lobby was made of these rows, and of nothing else
pub record HasRows (rows : Pairs) (lobby : LobbyState) : Type 0 where
  pub wanted : (key : List ℕ) → wanted_by lobby key ≡ find keys_order key rows
  pub opening : IsAtOpening lobby
  pub spelled : AreSpelled lobby
  pub each : All (λ row. IsAccount row ⊎ IsRowOfGame row) rows
  pub in_order : AreInOrder lobby.shelf.games
  pub accounts : length lobby.accounts ≡ count_of is_of_account rows
  pub games : length lobby.shelf.games ≡ count_of is_of_game rows
  pub few_accounts : length lobby.accounts ≤ most_accounts
  pub few_games : length lobby.shelf.games ≤ most_stored

-- the lobby has one account more, for which there was room
pub record AddsAccount (account : Account) (old new : LobbyState) : Type 0 where
  pub room : length old.accounts < most_accounts
  pub after : new ≡ with_account old account

-- the lobby has one stored game more, for which there was room
pub record AddsGame (number : ℕ) (game : StoredGame) (old new : LobbyState) : Type 0 where
  pub room : places_taken old < most_stored
  pub after : new ≡ record old { shelf = with_stored old.shelf number game }

-- the row was added to the lobby: its account, or its game
abbrev pub AddsRow : Row → LobbyState → LobbyState → Type 0
AddsRow row old new = ((account : Account) × IsAccountRow account row × AddsAccount account old new)
    ⊎ ((number : ℕ) × (game : StoredGame) × IsGameRow number game row × AddsGame number game old new)

-- the lobby can't take the row: it is none, or there is no room for its account or its game
abbrev pub CannotTake : LobbyState → Row → Type 0
CannotTake lobby row = IsNoRow row
    ⊎ ((IsAccount row × (most_accounts ≤ length lobby.accounts))
    ⊎ (IsRowOfGame row × (most_stored ≤ places_taken lobby)))

-- the one fact holds where something was added, and the other where it was refused
abbrev pub OnTaken : Taken → Type 0 → Type 0 → Type 0
OnTaken Added P Q = P
OnTaken Refused P Q = Q

-- of each table that has these pairs the key is the least bad one
abbrev pub IsLeastBadOf : Pairs → List ℕ → Type 0
IsLeastBadOf rows key = (table : Records) → rows ≡ map.entries table → IsLeastBad table key

-- the refusal names this key, or is want of memory for its copy
abbrev pub NamesKey : List ℕ → LoadRefusal → Type 0
NamesKey key (BadRecord named) = named ≡ key
NamesKey key KeeperFault = ⊥
NamesKey key Memory = Unit {0}
