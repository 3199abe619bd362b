-- A key under which a lobby wants nothing is that of no account and of no stored game.
use Rattle.std.proofs.Common.{◌≡◌, ℕ, true, false, cond, List, [], ◌∷◌, Option, None, Some, refl, sym, ap, ◌∙◌}
use Rattle.std.specs.Prelude.{bytes_eq}
use Rattle.std.specs.List.{find}
use Rattle.std.proofs.lemmas.Bool.{eqb-true}
use Rattle.std.proofs.lemmas.Slice.Eq.{bytes_eq-Decides}
use Rattle.fics_words.specs.declared.account.Account.{Account}
use Rattle.game_records.specs.Keys.{game_key}
use Rattle.lobby_shelf.specs.declared.shelved.Shelved.{Shelved}
use Rattle.lobby_shelf.specs.Numbers.{row_game, has_number, stored_game}
use Rattle.lobby_shelf.specs.Wanted.{account_record, either_record, game_record, is_account_at, is_game_at}
use Rattle.lobby_state.specs.Lobby.{LobbyState}
use Rattle.lobby_store.specs.Agreeing.{wanted_by}

no_account_record : (account : Option Account) (other : Option (List ℕ))
    → either_record (account_record account) other ≡ None → account ≡ None
no_account_record None other e = refl
no_account_record (Some account) other e = absurd cc

no_game_record : (account : Option Account) (game : Option Shelved)
    → either_record (account_record account) (game_record game) ≡ None → game ≡ None
no_game_record None None e = refl
no_game_record None (Some row) e = absurd cc
no_game_record (Some account) game e = absurd cc

-- no account has the key
pub no_account_at : (lobby : LobbyState) (key : List ℕ) → wanted_by lobby key ≡ None
    → find (is_account_at key) lobby.accounts ≡ None
no_account_at lobby key e =
    no_account_record (find (is_account_at key) lobby.accounts) (game_record (find (is_game_at key) lobby.shelf.games))
    e

-- no game has the key
pub no_game_at : (lobby : LobbyState) (key : List ℕ) → wanted_by lobby key ≡ None
    → find (is_game_at key) lobby.shelf.games ≡ None
no_game_at lobby key e =
    no_game_record (find (is_account_at key) lobby.accounts) (find (is_game_at key) lobby.shelf.games) e

none_stored : (games : List Shelved) (number : ℕ) → find (is_game_at (game_key number)) games ≡ None
    → stored_game games number ≡ None
none_stored [] number none = refl
none_stored (row ∷ games) number none =
    elim (has_number number row)
    as (λ t.
    has_number number row ≡ t
    → stored_game (row ∷ games) number ≡ row_game (cond t (Some row) (find (has_number number) games))
    → stored_game (row ∷ games) number ≡ None) [
      | true ↦ λ is same. absurd (here row games number (eqb-true row.number number is) none)
      | false ↦ λ is same. same ∙ none_stored games number (there row games number none)
    ] refl refl
  where
    own_key : (key : List ℕ) → bytes_eq key key ≡ true
    own_key key = (bytes_eq-Decides key key).1 refl

    here : (row : Shelved) (games : List Shelved) (number : ℕ) → row.number ≡ number
        → find (is_game_at (game_key number)) (row ∷ games) ≡ None → ⊥
    here row games number same none =
        let at : is_game_at (game_key number) row ≡ true =
        ap (λ n. bytes_eq (game_key n) (game_key number)) same ∙ own_key (game_key number) in
        let found : find (is_game_at (game_key number)) (row ∷ games) ≡ Some row =
        ap (λ t. cond t (Some row) (find (is_game_at (game_key number)) games)) at in
        let bad = sym found ∙ none in
        absurd cc

    there : (row : Shelved) (games : List Shelved) (number : ℕ)
        → find (is_game_at (game_key number)) (row ∷ games) ≡ None → find (is_game_at (game_key number)) games ≡ None
    there row games number none =
        elim (is_game_at (game_key number) row)
        as (λ t.
        cond t (Some row) (find (is_game_at (game_key number)) games) ≡ None
        → find (is_game_at (game_key number)) games ≡ None) [
          | true ↦ λ bad. absurd cc
          | false ↦ λ rest. rest
        ] none

-- and no game on the shelf has the number with this key
pub not_stored : (lobby : LobbyState) (number : ℕ) → wanted_by lobby (game_key number) ≡ None
    → stored_game lobby.shelf.games number ≡ None
not_stored lobby number e = none_stored lobby.shelf.games number (no_game_at lobby (game_key number) e)
