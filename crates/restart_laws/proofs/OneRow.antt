-- Two lobbies that are to hold the same in a store have the same account under each key, and the same game under each
-- number.
use Rattle.std.proofs.Common.{◌≡◌, ℕ, ◌^◌, ◌<◌, cond, List, [], ◌∷◌, Option, None, Some, refl, sym, ap, ◌∙◌}
use Rattle.std.specs.Prelude.{All, IfSome}
use Rattle.std.specs.List.{find}
use Rattle.std.specs.Cmp.{both_ways}
use Rattle.std.proofs.lemmas.Bool.{eq-eqb, eqb-true}
use Rattle.std.proofs.lemmas.List.Elements.{All-head, All-tail}
use Rattle.std.proofs.lemmas.Slice.Eq.{bytes_eq-Decides}
use Rattle.fics_words.specs.declared.account.Account.{Account}
use Rattle.game_records.specs.Keys.{account_key, game_key}
use Rattle.game_records.specs.Replays.{Replays}
use Rattle.game_records.specs.Spelling.{IsSpelled, account_text, game_text, spelling}
use Rattle.game_records.specs.declared.records.Record.TheVariants as a
use Rattle.game_records.proofs.KeysBack.{one_game}
use Rattle.lobby_shelf.specs.Numbers.{RiseAbove, row_game, has_number, stored_game}
use Rattle.lobby_shelf.specs.Wanted.{account_record, either_record, game_record, is_game_at, wanted}
use Rattle.lobby_shelf.specs.declared.shelved.Shelved.{Shelved}
use Rattle.lobby_shelf.proofs.Leading.{account_not_game, no_account, other_key, same_key, small_numbers}
use Rattle.login_handles.specs.Accounts.{account_of}
use Rattle.restart_laws.proofs.Found.{found_is}
use Rattle.restart_laws.proofs.OneText.{same_account, same_stored}

-- ---- accounts

no_game : (games : List Shelved) (letters : List ℕ) → find (is_game_at (account_key letters)) games ≡ None
no_game [] letters = refl
no_game (row ∷ games) letters =
    ap (λ t. cond t (Some row) (find (is_game_at (account_key letters)) games))
    (other_key (game_key row.number) (account_key letters) (λ e. account_not_game letters row.number (sym e)))
    ∙ no_game games letters

or_none : (x : Option (List ℕ)) → either_record x None ≡ x
or_none None = refl
or_none (Some bytes) = refl

-- under the key of a handle stands the record of its account
under_handle : (accounts : List Account) (games : List Shelved) (letters : List ℕ)
    → wanted accounts games (account_key letters) ≡ account_record (account_of accounts letters)
under_handle accounts games letters =
    ap (λ r. either_record (account_record (account_of accounts letters)) (game_record r)) (no_game games letters)
    ∙ or_none (account_record (account_of accounts letters))

one_account : (one other : Option Account) → account_record one ≡ account_record other → one ≡ other
one_account None None e = refl
one_account None (Some account) e = absurd cc
one_account (Some account) None e = absurd cc
one_account (Some one) (Some other) e =
    let texts : account_text one ≡ account_text other = cc in ap Some (same_account one other texts)

-- ---- games

abbrev IsOwn : Shelved → Type 0
IsOwn row = IsSpelled (a.Game row.game) (spelling (a.Game row.game))

own_test : (number : ℕ) (row : Shelved) → number < 2 ^ 64 → row.number < 2 ^ 64
    → is_game_at (game_key number) row ≡ has_number number row
own_test number row fits small =
    both_ways (is_game_at (game_key number) row) (has_number number row)
    (λ same.
    eq-eqb row.number number
    (one_game row.number number small fits (same_key (game_key row.number) (game_key number) same)))
    (λ same.
    (bytes_eq-Decides (game_key row.number) (game_key number)).1 (ap game_key (eqb-true row.number number same)))

found_by_number : (number : ℕ) (games : List Shelved) → number < 2 ^ 64 → All (λ row. row.number < 2 ^ 64) games
    → find (is_game_at (game_key number)) games ≡ find (has_number number) games
found_by_number number [] fits small = refl
found_by_number number (row ∷ games) fits small =
    let P : Shelved → Type 0 = λ z. z.number < 2 ^ 64 in
    ap (λ t. cond t (Some row) (find (is_game_at (game_key number)) games))
    (own_test number row fits (All-head P row games small))
    ∙ ap (λ r. cond (has_number number row) (Some row) r)
    (found_by_number number games fits (All-tail P row games small))

-- under the key of a number stands the record of its game
under_number : (accounts : List Account) (games : List Shelved) (number : ℕ) → number < 2 ^ 64 → RiseAbove 0 games
    → wanted accounts games (game_key number) ≡ game_record (find (has_number number) games)
under_number accounts games number fits rise =
    ap (λ r. either_record (account_record r) (game_record (find (is_game_at (game_key number)) games)))
    (no_account accounts number)
    ∙ ap game_record (found_by_number number games fits (small_numbers 0 games rise))

one_game_in : (one other : Option Shelved) → IfSome one (λ row. Replays row.game) → IfSome other IsOwn
    → game_record one ≡ game_record other
    → row_game one ≡ row_game other
one_game_in None None replays own e = refl
one_game_in None (Some row) replays own e = absurd cc
one_game_in (Some row) None replays own e = absurd cc
one_game_in (Some one) (Some other) replays own e =
    let texts : game_text one.game ≡ game_text other.game = cc in
    ap Some (same_stored one.game other.game replays own texts)

-- ---- both

module _ (accounts others : List Account) (games rows : List Shelved)
    (same : (key : List ℕ) → wanted others rows key ≡ wanted accounts games key) where
  pub same_accounts : (letters : List ℕ) → account_of others letters ≡ account_of accounts letters
  same_accounts letters =
      one_account (account_of others letters) (account_of accounts letters)
      (sym (under_handle others rows letters) ∙ same (account_key letters) ∙ under_handle accounts games letters)

  pub same_stored_games : RiseAbove 0 games → RiseAbove 0 rows → All (λ row. Replays row.game) games → All IsOwn rows
      → (number : ℕ) → number < 2 ^ 64 → stored_game games number ≡ stored_game rows number
  same_stored_games rise rise_too replay own number fits =
      one_game_in (find (has_number number) games) (find (has_number number) rows)
      (found_is (λ row. Replays row.game) (has_number number) games replay)
      (found_is IsOwn (has_number number) rows own)
      (sym (under_number accounts games number fits rise) ∙ sym (same (game_key number))
      ∙ under_number others rows number fits rise_too)
