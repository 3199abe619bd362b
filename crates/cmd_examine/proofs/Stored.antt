-- The stored game of a number in a lobby that was loaded is the one that stands in the table under the number's key.
use Rattle.std.proofs.Common.{◌≡◌, ℕ, ◌<◌, ◌^◌, true, false, cond, List, [], ◌∷◌, Option, Some, None, refl, sym, ap, subst, ◌∙◌}
use Rattle.std.specs.Prelude.{◌==◌, All, IfSome}
use Rattle.std.specs.List.{find}
use Rattle.std.proofs.lemmas.Bool.{eqb-true, eq-eqb}
use Rattle.std.proofs.lemmas.List.Elements.{All-head, All-tail}
use Rattle.std.proofs.lemmas.Slice.Eq.{bytes_eq-Decides}
use Rattle.edge_traits.specs.Pairs.{Records}
use Rattle.fics_words.specs.declared.account.Account.{Account}
use Rattle.game_records.specs.Keys.{game_key}
use Rattle.game_records.specs.Replays.{Replays}
use Rattle.game_records.specs.Spelling.{IsSpelled, spelling}
use Rattle.game_records.specs.declared.records.Record.TheVariants as a
use Rattle.game_records.specs.declared.stored_game.StoredGame.{StoredGame}
use Rattle.game_records.proofs.KeysBack.{one_game}
use Rattle.lobby_shelf.specs.declared.shelved.Shelved.{Shelved}
use Rattle.lobby_shelf.specs.Numbers.{RiseAbove, row_game, has_number, stored_game}
use Rattle.lobby_shelf.specs.Wanted.{account_record, either_record, game_record, is_game_at, wanted}
use Rattle.lobby_load.specs.BadRows.{IsGoodStore}
use Rattle.lobby_load.specs.Loaded.{AreSpelled, HasLoaded}
use Rattle.lobby_state.specs.Lobby.{LobbyState}
use Rattle.lobby_state.specs.WellFormed.{IsWellFormed}
use Rattle.lobby_store.specs.Carrying.{held}
use Rattle.cmd_examine.specs.ExamineEnds.{HasNone, IsGameOf, StandsUnder}
use Rattle.lobby_shelf.proofs.Leading.{other_key, no_account}

-- a game is found by its key where it is found by its number
by_number : (low : ℕ) (games : List Shelved) (number : ℕ) → RiseAbove low games → number < 2 ^ 64
    → find (is_game_at (game_key number)) games ≡ find (has_number number) games
by_number low [] number rise small = refl
by_number low (row ∷ games) number rise small =
    elim (row.number == number) as (λ t. row.number == number ≡ t →
    cond (is_game_at (game_key number) row) (Some row) (find (is_game_at (game_key number)) games)
    ≡ cond t (Some row) (find (has_number number) games)) [
      | true ↦ λ e.
          let same : row.number ≡ number = eqb-true row.number number e in
          let own : is_game_at (game_key number) row ≡ true =
          (bytes_eq-Decides (game_key row.number) (game_key number)).1 (ap game_key same) in
          ap (λ t. cond t (Some row) (find (is_game_at (game_key number)) games)) own
      | false ↦ λ e.
          let other : is_game_at (game_key number) row ≡ false =
          other_key (game_key row.number) (game_key number)
          (λ key. let same : row.number ≡ number = one_game row.number number rise.1 small key in
          let yes : row.number == number ≡ true = eq-eqb row.number number same in
          let no : true ≡ false = sym yes ∙ e in cc) in
          ap (λ t. cond t (Some row) (find (is_game_at (game_key number)) games)) other
          ∙ by_number row.number games number rise.2 small
    ] refl

-- what a store is to hold under the key of a game
wanted_game : (accounts : List Account) (games : List Shelved) (number : ℕ) → RiseAbove 0 games → number < 2 ^ 64
    → wanted accounts games (game_key number) ≡ game_record (find (has_number number) games)
wanted_game accounts games number rise small =
    ap (λ r. either_record (account_record r) (game_record (find (is_game_at (game_key number)) games)))
    (no_account accounts number)
    ∙ ap game_record (by_number 0 games number rise small)

-- what holds of each game on the shelf holds of the one that is found
found_has : (P : StoredGame → Type 0) (games : List Shelved) (number : ℕ) (game : StoredGame)
    → All (λ row. P row.game) games → stored_game games number ≡ Some game → P game
found_has P [] number game all e = absurd cc
found_has P (row ∷ games) number game all e =
    elim (has_number number row)
    as (λ t. row_game (cond t (Some row) (find (has_number number) games)) ≡ Some game → P game) [
      | true ↦ λ is.
          let same : row.game ≡ game = cc in subst P same (All-head (λ (x : Shelved). P x.game) row games all)
      | false ↦ λ is. found_has P games number game (All-tail (λ (x : Shelved). P x.game) row games all) is
    ] e

-- a stored game replays
pub found_replays : (lobby : LobbyState) (number : ℕ) (game : StoredGame) → IsWellFormed lobby
    → stored_game lobby.shelf.games number ≡ Some game → Replays game
found_replays lobby number game formed e = found_has Replays lobby.shelf.games number game formed.shelf.sound.replay e

record_of : (found : Option Shelved) (game : StoredGame) → row_game found ≡ Some game
    → game_record found ≡ Some (spelling (a.Game game))
record_of None game e = absurd cc
record_of (Some row) game e =
    let same : row.game ≡ game = cc in ap (λ (g : StoredGame). Some (spelling (a.Game g))) same

no_record : (found : Option Shelved) → row_game found ≡ None → game_record found ≡ None
no_record None e = refl
no_record (Some row) e = absurd cc

module _ (table : Option Records) (lobby : LobbyState) (number : ℕ) (small : number < 2 ^ 64)
    (formed : IsWellFormed lobby) (spelled : AreSpelled lobby)
    (loaded : IfSome table (λ told. HasLoaded told lobby)) (good : IfSome table IsGoodStore) where
  -- it stands in the store under that number's key
  found_stands : (game : StoredGame) → stored_game lobby.shelf.games number ≡ Some game
      → IfSome table (StandsUnder number game)
  found_stands game e = by table loaded
    where
      by : (t : Option Records) → IfSome t (λ told. HasLoaded told lobby) → IfSome t (StandsUnder number game)
      by None h = tt
      by (Some told) h = record {
        bytes = spelling (a.Game game);
        there =
            sym (h (game_key number))
            ∙ wanted_game lobby.accounts lobby.shelf.games number formed.shelf.sound.numbers small
            ∙ record_of (find (has_number number) lobby.shelf.games) game e;
        spelled =
            found_has (λ g. IsSpelled (a.Game g) (spelling (a.Game g))) lobby.shelf.games number game spelled.games e;
      }

  -- so it is the store's of that number
  pub found_is : (game : StoredGame) → stored_game lobby.shelf.games number ≡ Some game → IsGameOf table number game
  found_is game e =
      record { good = good; stands = found_stands game e; replays = found_replays lobby number game formed e }

  -- and where there is none, none stands there
  none_stands : stored_game lobby.shelf.games number ≡ None → IfSome table (λ told. held told (game_key number) ≡ None)
  none_stands e = by table loaded
    where
      by : (t : Option Records) → IfSome t (λ told. HasLoaded told lobby)
          → IfSome t (λ told. held told (game_key number) ≡ None)
      by None h = tt
      by (Some told) h =
          sym (h (game_key number))
          ∙ wanted_game lobby.accounts lobby.shelf.games number formed.shelf.sound.numbers small
          ∙ no_record (find (has_number number) lobby.shelf.games) e

  pub none_is : stored_game lobby.shelf.games number ≡ None → HasNone table number
  none_is e = record { good = good; none = none_stands e }
