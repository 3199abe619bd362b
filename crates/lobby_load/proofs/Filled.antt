-- A lobby that was made of rows, as one row more is added to it.
use Rattle.std.proofs.Common.{◌≡◌, ◌⊎◌, inl, inr, ℕ, ◌+◌, ◌<◌, cond, List, [], ◌∷◌, ◌++◌, Option, None, Some, filter, length, length-append, refl, sym, ap, subst, ◌∙◌, arith}
use Rattle.std.specs.Prelude.{bytes_eq}
use Rattle.std.specs.Ordering.{eq_by_cmp}
use Rattle.std.specs.Cmp.Lexicographic.{nat_list_cmp_total}
use Rattle.std.specs.FinMap.{find}
use Rattle.std.specs.FinMap.Entries.{find-append}
use Rattle.std.proofs.lemmas.List.Elements.{All-append, All-cons, All-filter, All-nil, All-push}
use Rattle.fics_words.specs.Handle.{key_of}
use Rattle.fics_words.specs.declared.account.Account.{Account}
use Rattle.game_records.specs.Keys.{account_key, game_key}
use Rattle.game_records.specs.Spelling.{IsSpelled, spelling}
use Rattle.game_records.specs.declared.records.Record.{Record}
use Rattle.game_records.specs.declared.records.Record.TheVariants as a
use Rattle.game_records.specs.declared.stored_game.StoredGame.{StoredGame}
use Rattle.lobby_shelf.specs.declared.shelved.Shelved.{Shelved}
use Rattle.lobby_shelf.specs.Numbers.{is_above, is_below}
use Rattle.lobby_shelf.specs.Shelf.{most_stored, with_stored}
use Rattle.lobby_shelf.proofs.Keeping.{length-with}
use Rattle.lobby_shelf.proofs.Rising.{RiseAbove-with}
use Rattle.edge_traits.specs.Pairs.{Pairs, keys_order}
use Rattle.lobby_state.specs.Lobby.{LobbyState, most_accounts, opening}
use Rattle.lobby_state.specs.Registration.{with_account}
use Rattle.lobby_state.specs.ShelfRoom.{places_taken}
use Rattle.lobby_state.proofs.KeepsResumed.{unused-stored}
use Rattle.lobby_store.specs.Agreeing.{wanted_by}
use Rattle.lobby_store.specs.Rows.{IsAccountRow, IsGameRow}
use Rattle.lobby_store.proofs.OrdersOut.{same_test}
use Rattle.lobby_load.specs.BadRows.{IsAccount, IsRowOfGame, Row}
use Rattle.lobby_load.specs.Filling.{AddsRow, HasRows, is_of_account, is_of_game}
use Rattle.lobby_load.proofs.Counting.{count_push_no, count_push_yes}
use Rattle.lobby_load.proofs.Growing.{wanted_account, wanted_game}
use Rattle.lobby_load.proofs.Unheld.{no_account_at, not_stored}

-- a lobby at its opening was made of no rows
pub HasRows-none : HasRows [] opening
HasRows-none = record {
  wanted = λ key. refl;
  opening = record { nobody = refl; no_game = refl; no_orders = refl; else_opening = refl };
  spelled = record {
    accounts = All-nil (λ account. IsSpelled (a.Account account) (spelling (a.Account account)));
    games = All-nil (λ row. IsSpelled (a.Game row.game) (spelling (a.Game row.game)));
  };
  each = All-nil (λ row. IsAccount row ⊎ IsRowOfGame row);
  in_order = tt;
  accounts = refl;
  games = refl;
  few_accounts = omega arith;
  few_games = omega arith;
}

-- its own record has a value that has any
own_record : (r : Record) (bytes : List ℕ) → IsSpelled r bytes → IsSpelled r (spelling r)
own_record r bytes h = record { typed = h.typed; bounds = h.bounds; text = refl }

-- what a row adds under each key, as a search among the rows finds it
found_more : (rows : Pairs) (row : Row) (own text key : List ℕ) (before : Option (List ℕ)) → row.0 ≡ own → row.1 ≡ text
    → before ≡ find keys_order key rows → find keys_order row.0 rows ≡ None
    → cond (bytes_eq own key) (Some text) before ≡ find keys_order key (rows ++ row ∷ [])
found_more rows row own text key before own_is text_is before_is new =
    ap (λ b. cond b (Some text) before) (sym (same_test key own))
    ∙ ap (λ k. cond (eq_by_cmp keys_order key k) (Some text) before) (sym own_is)
    ∙ ap (λ t. cond (eq_by_cmp keys_order key row.0) (Some t) before) (sym text_is)
    ∙ ap (λ r. cond (eq_by_cmp keys_order key row.0) (Some row.1) r) before_is
    ∙ sym (find-append keys_order nat_list_cmp_total rows row.0 row.1 key new)

-- under the row's key nothing was wanted
unwanted : (rows : Pairs) (row : Row) (lobby : LobbyState) → HasRows rows lobby → find keys_order row.0 rows ≡ None
    → wanted_by lobby row.0 ≡ None
unwanted rows row lobby h new = h.wanted row.0 ∙ new

with_account-filled : (rows : Pairs) (row : Row) (lobby : LobbyState) (account : Account) → HasRows rows lobby
    → find keys_order row.0 rows ≡ None
    → IsAccountRow account row → length lobby.accounts < most_accounts
    → HasRows (rows ++ row ∷ []) (with_account lobby account)
with_account-filled rows row lobby account h new is room =
    let own = account_key (key_of account.name) in
    let unwanted_own : wanted_by lobby own ≡ None =
    subst (λ k. wanted_by lobby k ≡ None) is.own (unwanted rows row lobby h new) in
    let long = length-append lobby.accounts (account ∷ []) in
    let more = count_push_yes (λ x. is_of_account x.0) rows row (ap is_of_account is.own) in
    let same = count_push_no (λ x. is_of_game x.0) rows row (ap is_of_game is.own) in
    record {
      wanted = λ key. wanted_account lobby.accounts lobby.shelf.games account key (no_account_at lobby own unwanted_own)
          ∙ found_more rows row own (spelling (a.Account account)) key (wanted_by lobby key) is.own is.spelled.text
          (h.wanted key) new;
      opening = record {
        nobody = h.opening.nobody;
        no_game = h.opening.no_game;
        no_orders = h.opening.no_orders;
        else_opening = ap (λ l. with_account l account) h.opening.else_opening;
      };
      spelled = record {
        accounts =
            All-push (λ x. IsSpelled (a.Account x) (spelling (a.Account x))) lobby.accounts account h.spelled.accounts
            (own_record (a.Account account) row.1 is.spelled);
        games = h.spelled.games;
      };
      each = All-push (λ x. IsAccount x ⊎ IsRowOfGame x) rows row h.each (inl (account, is));
      in_order = h.in_order;
      accounts = long ∙ ap (λ n. n + 1) h.accounts ∙ sym more;
      games = h.games ∙ sym same;
      few_accounts = omega (arith, long, room);
      few_games = h.few_games;
    }

with_stored-filled : (rows : Pairs) (row : Row) (lobby : LobbyState) (number : ℕ) (game : StoredGame)
    → HasRows rows lobby
    → find keys_order row.0 rows ≡ None → IsGameRow number game row → places_taken lobby < most_stored
    → HasRows (rows ++ row ∷ []) (record lobby { shelf = with_stored lobby.shelf number game })
with_stored-filled rows row lobby number game h new is room =
    let own = game_key number in
    let games = lobby.shelf.games in
    let added : Shelved = record { number = number; game = game } in
    let unwanted_own : wanted_by lobby own ≡ None =
    subst (λ k. wanted_by lobby k ≡ None) is.own (unwanted rows row lobby h new) in
    let unused = unused-stored games number (not_stored lobby number unwanted_own) in
    let long = length-with added 0 games unused h.in_order in
    let more = count_push_yes (λ x. is_of_game x.0) rows row (ap is_of_game is.own) in
    let same = count_push_no (λ x. is_of_account x.0) rows row (ap is_of_account is.own) in
    let Q : Shelved → Type 0 = λ x. IsSpelled (a.Game x.game) (spelling (a.Game x.game)) in
    record {
      wanted = λ key. wanted_game lobby.accounts games number game key is.small unused h.in_order
          ∙ found_more rows row own (spelling (a.Game game)) key (wanted_by lobby key) is.own is.spelled.text
          (h.wanted key) new;
      opening = record {
        nobody = h.opening.nobody;
        no_game = h.opening.no_game;
        no_orders = h.opening.no_orders;
        else_opening =
            ap (λ (l : LobbyState). record l { shelf = with_stored l.shelf number game }) h.opening.else_opening;
      };
      spelled = record {
        accounts = h.spelled.accounts;
        games = All-append Q (filter (is_below number) games) (added ∷ filter (is_above number) games)
            (All-filter (is_below number) Q games h.spelled.games)
            (All-cons Q added (filter (is_above number) games) (own_record (a.Game game) row.1 is.spelled)
            (All-filter (is_above number) Q games h.spelled.games));
      };
      each = All-push (λ x. IsAccount x ⊎ IsRowOfGame x) rows row h.each (inr (number, game, is));
      in_order = RiseAbove-with added 0 games is.positive is.small unused h.in_order;
      accounts = h.accounts ∙ sym same;
      games = long ∙ ap (λ n. n + 1) h.games ∙ sym more;
      few_accounts = h.few_accounts;
      few_games = omega (arith, long, room);
    }

-- a lobby that was made of rows, and took one more, was made of these
pub HasRows-more : (rows : Pairs) (row : Row) (old new : LobbyState) → HasRows rows old
    → find keys_order row.0 rows ≡ None
    → AddsRow row old new → HasRows (rows ++ row ∷ []) new
HasRows-more rows row old new h unknown (inl (account, is, adds)) =
    subst (HasRows (rows ++ row ∷ [])) (sym adds.after)
    (with_account-filled rows row old account h unknown is adds.room)
HasRows-more rows row old new h unknown (inr (number, game, is, adds)) =
    subst (HasRows (rows ++ row ∷ [])) (sym adds.after)
    (with_stored-filled rows row old number game h unknown is adds.room)
