-- A table that holds what a lobby wants is a good store, where the lobby's values are of their types.
use Rattle.std.proofs.Common.{◌≡◌, ◌⊎◌, inl, inr, ℕ, ◌^◌, ◌<◌, ◌≤◌, Bool, true, false, T, List, [], ◌∷◌, ◌++◌, Option, None, Some, refl, sym, ap, subst, ◌∙◌, arith, append_assoc}
use Rattle.std.specs.Prelude.{All, IfSome}
use Rattle.std.specs.List.{AllByRecursion, find}
use Rattle.std.specs.FinMap as map
use Rattle.std.specs.FinMap.{entries_sorted, find as find_row, get-entries}
use Rattle.std.proofs.lemmas.List.Elements.{All-cons, All-nil}
use Rattle.edge_traits.specs.Pairs.{IsAscending, Pairs, Records, keys_order}
use Rattle.fics_words.specs.Handle.{IsHandle, key_of}
use Rattle.fics_words.specs.declared.account.Account.{Account}
use Rattle.game_records.specs.Bounds.{IsTyped}
use Rattle.game_records.specs.Keys.{account_key, game_key}
use Rattle.game_records.specs.Replays.{Replays}
use Rattle.game_records.specs.Spelling.{spelling}
use Rattle.game_records.specs.declared.records.Record.TheVariants as a
use Rattle.lobby_load.proofs.Least.{made_good}
use Rattle.lobby_load.proofs.RowsSorted.{find-itself}
use Rattle.lobby_load.specs.BadRows.{IsAccount, IsRowOfGame, IsGoodStore}
use Rattle.lobby_load.specs.Filling.{HasRows}
use Rattle.lobby_load.specs.Loaded.{opening_with}
use Rattle.lobby_shelf.proofs.Leading.{same_key, small_numbers}
use Rattle.lobby_shelf.specs.Numbers.{RiseAbove}
use Rattle.lobby_shelf.specs.Wanted.{account_record, either_record, game_record, is_account_at, is_game_at, wanted}
use Rattle.lobby_shelf.specs.declared.shelved.Shelved.{Shelved}
use Rattle.lobby_state.specs.Lobby.{LobbyState}
use Rattle.lobby_state.specs.WellFormed.{IsWellFormed}
use Rattle.lobby_store.specs.Agreeing.{wanted_by}
use Rattle.lobby_store.specs.Carrying.{held}
use Rattle.lobby_store.specs.Rows.{IsAccountRow, IsGameRow}
use Rattle.restart_laws.proofs.Found.{found_is, found_so}
use Rattle.restart_laws.proofs.OneText.{on_the_board}
use Rattle.restart_laws.proofs.RowCounts.{as_many_accounts, as_many_games}
use Rattle.restart_laws.specs.Good.{AreOfTypes}

-- ---- rows

-- what is known of a game on the shelf
record IsKept (row : Shelved) : Type 0 where
  replays : Replays row.game
  handles : AllByRecursion IsHandle row.game.names
  positive : 1 ≤ row.number
  small : row.number < 2 ^ 64

positive_numbers : (low : ℕ) (games : List Shelved) → RiseAbove low games → All (λ row. 1 ≤ row.number) games
positive_numbers low [] rise = All-nil (λ row. 1 ≤ row.number)
positive_numbers low (row ∷ games) rise =
    let above = rise.0 in
    All-cons (λ z. 1 ≤ z.number) row games (omega (arith, above)) (positive_numbers row.number games rise.2)

account_row : (key bytes : List ℕ) (account : Account) → IsTyped (a.Account account) → is_account_at key account ≡ true
    → spelling (a.Account account) ≡ bytes → IsAccountRow account (key, bytes)
account_row key bytes account typed at text = record {
  spelled = record { typed = typed; bounds = tt; text = sym text };
  own = sym (same_key (account_key (key_of account.name)) key at);
}

game_row : (key bytes : List ℕ) (row : Shelved) → IsKept row → is_game_at key row ≡ true
    → spelling (a.Game row.game) ≡ bytes
    → IsGameRow row.number row.game (key, bytes)
game_row key bytes row kept at text = record {
  spelled =
      record {
        typed = (kept.handles, on_the_board row.game kept.replays);
        bounds = kept.replays.spelled;
        text = sym text;
      };
  own = sym (same_key (game_key row.number) key at);
  positive = kept.positive;
  small = kept.small;
  replays = kept.replays;
}

row_by : (key bytes : List ℕ) (one : Option Account) (other : Option Shelved) → IfSome one (λ x. IsTyped (a.Account x))
    → IfSome one (λ x. is_account_at key x ≡ true)
    → IfSome other IsKept → IfSome other (λ x. is_game_at key x ≡ true)
    → either_record (account_record one) (game_record other) ≡ Some bytes
    → IsAccount (key, bytes) ⊎ IsRowOfGame (key, bytes)
row_by key bytes None None typed at kept found e = absurd cc
row_by key bytes None (Some row) typed at kept found e =
    let text : spelling (a.Game row.game) ≡ bytes = cc in
    inr (row.number, row.game, game_row key bytes row kept found text)
row_by key bytes (Some account) other typed at kept found e =
    let text : spelling (a.Account account) ≡ bytes = cc in inl (account, account_row key bytes account typed at text)

module _ (accounts : List Account) (games : List Shelved) (typed : All (λ x. IsTyped (a.Account x)) accounts)
    (kept : All IsKept games) where
  wanted_row : (key bytes : List ℕ) → wanted accounts games key ≡ Some bytes
      → IsAccount (key, bytes) ⊎ IsRowOfGame (key, bytes)
  wanted_row key bytes e =
      row_by key bytes (find (is_account_at key) accounts) (find (is_game_at key) games)
      (found_is (λ x. IsTyped (a.Account x)) (is_account_at key) accounts typed) (found_so (is_account_at key) accounts)
      (found_is IsKept (is_game_at key) games kept) (found_so (is_game_at key) games) e

  each_row : (done rest : Pairs) → IsAscending (done ++ rest)
      → ((key : List ℕ) → wanted accounts games key ≡ find_row keys_order key (done ++ rest))
      → All (λ row. IsAccount row ⊎ IsRowOfGame row) rest
  each_row done [] rise holds = All-nil (λ row. IsAccount row ⊎ IsRowOfGame row)
  each_row done (row ∷ rest) rise holds =
      let again : (done ++ row ∷ []) ++ rest ≡ done ++ row ∷ rest = append_assoc done (row ∷ []) rest in
      All-cons (λ x. IsAccount x ⊎ IsRowOfGame x) row rest
      (wanted_row row.0 row.1 (holds row.0 ∙ find-itself done rest row rise))
      (each_row (done ++ row ∷ []) rest (subst IsAscending (sym again) rise)
      (λ key. holds key ∙ ap (find_row keys_order key) (sym again)))

-- ---- the table

true_of : (b : Bool) → T b → b ≡ true
true_of true h = refl
true_of false h = absurd h

pub good_table : (table : Records) (lobby : LobbyState) → IsWellFormed lobby → AreOfTypes lobby
    → ((key : List ℕ) → held table key ≡ wanted_by lobby key)
    → IsGoodStore table
good_table table lobby formed types holds =
    let rows : Pairs = map.entries table in
    let accounts = lobby.accounts in
    let games = lobby.shelf.games in
    let sound = formed.shelf.sound in
    let rise : IsAscending rows = true_of _ (entries_sorted table) in
    let found : (key : List ℕ) → wanted accounts games key ≡ find_row keys_order key rows = λ key.
    sym (holds key) ∙ get-entries table key in
    let positive = positive_numbers 0 games sound.numbers in
    let small = small_numbers 0 games sound.numbers in
    let kept : All IsKept games =
    λ k d lt.
    record {
      replays = sound.replay k d lt;
      handles = types.players k d lt;
      positive = positive k d lt;
      small = small k d lt;
    } in
    let made : HasRows rows (opening_with accounts games) = record {
      wanted = found;
      opening = record { nobody = refl; no_game = refl; no_orders = refl; else_opening = refl };
      spelled = record {
        accounts = λ k d lt. record { typed = types.accounts k d lt; bounds = tt; text = refl };
        games = λ k d lt.
            record {
              typed = (types.players k d lt, on_the_board _ (sound.replay k d lt));
              bounds = (sound.replay k d lt).spelled;
              text = refl;
            };
      };
      each = each_row accounts games types.accounts kept [] rows rise found;
      in_order = sound.numbers;
      accounts = as_many_accounts accounts games rows rise found formed.accounts.0;
      games = as_many_games accounts games rows rise found sound.numbers;
      few_accounts = formed.accounts.1;
      few_games = sound.room;
    } in
    made_good table (opening_with accounts games) rows rise refl made
