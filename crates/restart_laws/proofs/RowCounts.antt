-- How many rows of a kind stand in a table that holds what a lobby wants: as many as the lobby has accounts, or games.
use Rattle.std.proofs.Common.{◌≡◌, ℕ, ◌+◌, ◌^◌, ◌<◌, Bool, true, false, cond, ◌&&◌, ◌||◌, List, [], ◌∷◌, Option, None, Some, is_eq, length, refl, sym, ap, ◌∙◌, arith}
use Rattle.std.specs.Prelude.{IfSome, bytes_eq, is_some, map}
use Rattle.std.specs.List.{AllByRecursion, IsDistinct, find, list_any}
use Rattle.std.specs.Cmp.{eq_by_cmp_equiv, first_so, second_so}
use Rattle.std.specs.Cmp.Lexicographic.{nat_list_cmp_total}
use Rattle.std.specs.FinMap.{find as find_row}
use Rattle.std.specs.Ordering.{eq_by_cmp}
use Rattle.std.proofs.lemmas.Bool.{and_from, and_left, and_right}
use Rattle.std.proofs.lemmas.List.{length-map}
use Rattle.std.proofs.lemmas.Map.Made.{length-from_same_keys}
use Rattle.edge_traits.proofs.Rising.{IsBelow, is_less}
use Rattle.edge_traits.specs.Pairs.{IsAscending, Pairs, keys_order}
use Rattle.fics_words.specs.Handle.{key_of}
use Rattle.fics_words.specs.declared.account.Account.{Account}
use Rattle.game_records.proofs.KeysBack.{one_game}
use Rattle.game_records.specs.Keys.{account_key, game_key}
use Rattle.lobby_load.proofs.Counting.{count_cons}
use Rattle.lobby_load.specs.Filling.{count_of, is_of_account, is_of_game}
use Rattle.lobby_shelf.proofs.Leading.{other_key, same_key}
use Rattle.lobby_shelf.specs.Numbers.{RiseAbove}
use Rattle.lobby_shelf.specs.Wanted.{account_record, either_record, game_record, is_account_at, is_game_at, wanted}
use Rattle.lobby_shelf.specs.declared.shelved.Shelved.{Shelved}
use Rattle.lobby_store.proofs.OrdersOut.{same_test, tied_same}
use Rattle.login_handles.specs.Accounts.{HasOneEach, account_of}
use Rattle.restart_laws.proofs.Found.{found_so}

-- two keys are one
abbrev tied : List ℕ → List ℕ → Bool
tied = eq_by_cmp keys_order

-- ---- the keys of a kind among rows

keys_in : (List ℕ → Bool) → Pairs → List (List ℕ)
keys_in kind [] = []
keys_in kind (row ∷ rows) = cond (kind row.0) (row.0 ∷ keys_in kind rows) (keys_in kind rows)

keys_counted : (kind : List ℕ → Bool) (rows : Pairs) → length (keys_in kind rows) ≡ count_of kind rows
unfolding keys_in
keys_counted kind [] = refl
keys_counted kind (row ∷ rows) =
    let rest = keys_counted kind rows in
    elim (kind row.0)
    as (λ t. length (cond t (row.0 ∷ keys_in kind rows) (keys_in kind rows)) ≡ cond t 1 0 + count_of kind rows) [
      | true ↦ omega (arith, rest)
      | false ↦ omega (arith, rest)
    ] ∙ sym (count_cons (λ x. kind x.0) row rows)

apart : (kind : List ℕ → Bool) (key : List ℕ) (rows : Pairs) → IsBelow key rows
    → AllByRecursion (λ y. tied key y ≡ false) (keys_in kind rows)
unfolding keys_in
apart kind key [] below = tt
apart kind key (row ∷ rows) below =
    let rest = apart kind key rows (second_so _ _ below) in
    elim (kind row.0)
    as (λ t. AllByRecursion (λ y. tied key y ≡ false) (cond t (row.0 ∷ keys_in kind rows) (keys_in kind rows))) [
      | true ↦ (ap is_eq (is_less _ (first_so _ _ below)), rest)
      | false ↦ rest
    ]

keys_differ : (kind : List ℕ → Bool) (rows : Pairs) → IsAscending rows → IsDistinct tied (keys_in kind rows)
unfolding keys_in IsDistinct
keys_differ kind [] rise = tt
keys_differ kind (row ∷ rows) rise =
    let rest = keys_differ kind rows (second_so _ _ rise) in
    elim (kind row.0) as (λ t. IsDistinct tied (cond t (row.0 ∷ keys_in kind rows) (keys_in kind rows))) [
      | true ↦ (apart kind row.0 rows (first_so _ _ rise), rest)
      | false ↦ rest
    ]

abbrev IsIn : (List ℕ → Bool) → List ℕ → Pairs → Type 0
IsIn kind key rows = list_any (tied key) (keys_in kind rows) ≡ (kind key && is_some (find_row keys_order key rows))

-- a row that has the key comes first, or one that has another
its_own : (kind : List ℕ → Bool) (key : List ℕ) (row : List ℕ) (rows : Pairs) → tied key row ≡ true → (t : Bool)
    → t ≡ kind key → IsIn kind key rows
    → list_any (tied key) (cond t (row ∷ keys_in kind rows) (keys_in kind rows)) ≡ (kind key && true)
its_own kind key row rows same true is rest =
    ap (λ s. s || list_any (tied key) (keys_in kind rows)) same ∙ sym (and_from (kind key) true (sym is) refl)
its_own kind key row rows same false is rest =
    rest ∙ and_left (kind key) _ (sym is) ∙ sym (and_left (kind key) true (sym is))

another : (kind : List ℕ → Bool) (key : List ℕ) (row : List ℕ) (rows : Pairs) → tied key row ≡ false → (t : Bool)
    → IsIn kind key rows
    → list_any (tied key) (cond t (row ∷ keys_in kind rows) (keys_in kind rows))
    ≡ (kind key && is_some (find_row keys_order key rows))
another kind key row rows other true rest = ap (λ s. s || list_any (tied key) (keys_in kind rows)) other ∙ rest
another kind key row rows other false rest = rest

-- a key is among these where it is of the kind and a row has it
in_rows : (kind : List ℕ → Bool) (key : List ℕ) (rows : Pairs) → IsIn kind key rows
unfolding keys_in
in_rows kind key [] = sym (and_right (kind key) false refl)
in_rows kind key (row ∷ rows) =
    let rest = in_rows kind key rows in
    let found = find_row keys_order key rows in
    elim (tied key row.0)
    as (λ s.
    tied key row.0 ≡ s
    → list_any (tied key) (cond (kind row.0) (row.0 ∷ keys_in kind rows) (keys_in kind rows))
    ≡ (kind key && is_some (cond s (Some row.1) found))) [
      | true ↦ λ same. its_own kind key row.0 rows same (kind row.0) (sym (ap kind (tied_same key row.0 same))) rest
      | false ↦ λ other. another kind key row.0 rows other (kind row.0) rest
    ] refl

-- ---- the keys of accounts and of games

-- one of these has the key where one is found by it
in_list : {X : Type 0} (own : X → List ℕ) (key : List ℕ) (xs : List X)
    → list_any (tied key) (map own xs) ≡ is_some (find (λ x. bytes_eq (own x) key) xs)
in_list own key [] = refl
in_list own key (x ∷ xs) =
    ap (λ s. s || list_any (tied key) (map own xs)) (same_test key (own x))
    ∙ elim (bytes_eq (own x) key)
    as (λ s.
    (s || list_any (tied key) (map own xs)) ≡ is_some (cond s (Some x) (find (λ z. bytes_eq (own z) key) xs))) [
      | true ↦ refl
      | false ↦ in_list own key xs
    ]

abbrev own_key : Account → List ℕ
own_key account = account_key (key_of account.name)

abbrev number_key : Shelved → List ℕ
number_key row = game_key row.number

no_other : (letters : List ℕ) (accounts : List Account) → account_of accounts letters ≡ None
    → AllByRecursion (λ y. tied (account_key letters) y ≡ false) (map own_key accounts)
no_other letters [] none = tt
no_other letters (account ∷ accounts) none =
    elim (bytes_eq (key_of account.name) letters)
    as (λ s. bytes_eq (key_of account.name) letters ≡ s → cond s (Some account) (account_of accounts letters) ≡ None
    → AllByRecursion (λ y. tied (account_key letters) y ≡ false) (map own_key (account ∷ accounts))) [
      | true ↦ λ _ bad. absurd cc
      | false ↦ λ other rest.
          (same_test (account_key letters) (own_key account) ∙ other, no_other letters accounts rest)
    ] refl none

accounts_differ : (accounts : List Account) → HasOneEach accounts → IsDistinct tied (map own_key accounts)
unfolding IsDistinct
accounts_differ [] each = tt
accounts_differ (account ∷ accounts) each =
    (no_other (key_of account.name) accounts each.0, accounts_differ accounts each.1)

above_all : (number low : ℕ) (games : List Shelved) → number < 2 ^ 64 → RiseAbove low games → number < low + 1
    → AllByRecursion (λ y. tied (game_key number) y ≡ false) (map number_key games)
above_all number low [] fits rise less = tt
above_all number low (row ∷ games) fits rise less =
    let above = rise.0 in (
      same_test (game_key number) (game_key row.number)
          ∙ other_key (game_key row.number) (game_key number)
          (λ e. let same = one_game row.number number rise.1 fits e in omega (arith, same, above, less)),
      above_all number row.number games fits rise.2 (omega (arith, above, less)),
    )

games_differ : (low : ℕ) (games : List Shelved) → RiseAbove low games → IsDistinct tied (map number_key games)
unfolding IsDistinct
games_differ low [] rise = tt
games_differ low (row ∷ games) rise =
    (above_all row.number row.number games rise.1 rise.2 (omega arith), games_differ row.number games rise.2)

-- ---- both

account_is : (key : List ℕ) (account : Account) → is_account_at key account ≡ true
    → account_key (key_of account.name) ≡ key
account_is key account at = same_key (account_key (key_of account.name)) key at

game_is : (key : List ℕ) (row : Shelved) → is_game_at key row ≡ true → game_key row.number ≡ key
game_is key row at = same_key (game_key row.number) key at

by_account : (key : List ℕ) (one : Option Account) (other : Option Shelved)
    → IfSome one (λ x. is_account_at key x ≡ true) → IfSome other (λ x. is_game_at key x ≡ true)
    → is_some one ≡ (is_of_account key && is_some (either_record (account_record one) (game_record other)))
by_account key None None at found = sym (and_right (is_of_account key) false refl)
by_account key None (Some row) at found =
    sym (and_left (is_of_account key) true (sym (ap is_of_account (game_is key row found))))
by_account key (Some account) other at found =
    sym (and_from (is_of_account key) true (sym (ap is_of_account (account_is key account at))) refl)

by_game : (key : List ℕ) (one : Option Account) (other : Option Shelved) → IfSome one (λ x. is_account_at key x ≡ true)
    → IfSome other (λ x. is_game_at key x ≡ true)
    → (is_of_game key && is_some other)
    ≡ (is_of_game key && is_some (either_record (account_record one) (game_record other)))
by_game key None None at found = refl
by_game key None (Some row) at found = refl
by_game key (Some account) other at found =
    let not_of : is_of_game key ≡ false = sym (ap is_of_game (account_is key account at)) in
    and_left (is_of_game key) (is_some other) not_of ∙ sym (and_left (is_of_game key) true not_of)

of_games : (key : List ℕ) (other : Option Shelved) → IfSome other (λ x. is_game_at key x ≡ true)
    → is_some other ≡ (is_of_game key && is_some other)
of_games key None found = sym (and_right (is_of_game key) false refl)
of_games key (Some row) found = sym (and_from (is_of_game key) true (sym (ap is_of_game (game_is key row found))) refl)

module _ (accounts : List Account) (games : List Shelved) (rows : Pairs) (rise : IsAscending rows)
    (holds : (key : List ℕ) → wanted accounts games key ≡ find_row keys_order key rows) where
  pub as_many_accounts : HasOneEach accounts → length accounts ≡ count_of is_of_account rows
  as_many_accounts each =
      sym (length-map accounts own_key)
      ∙ length-from_same_keys (eq_by_cmp_equiv nat_list_cmp_total) (map own_key accounts) (keys_in is_of_account rows)
      (accounts_differ accounts each) (keys_differ is_of_account rows rise)
      (λ key. in_list own_key key accounts
      ∙ by_account key (find (is_account_at key) accounts) (find (is_game_at key) games)
      (found_so (is_account_at key) accounts) (found_so (is_game_at key) games)
      ∙ ap (λ (r : Option (List ℕ)). is_of_account key && is_some r) (holds key)
      ∙ sym (in_rows is_of_account key rows))
      ∙ keys_counted is_of_account rows

  pub as_many_games : RiseAbove 0 games → length games ≡ count_of is_of_game rows
  as_many_games above =
      sym (length-map games number_key)
      ∙ length-from_same_keys (eq_by_cmp_equiv nat_list_cmp_total) (map number_key games) (keys_in is_of_game rows)
      (games_differ 0 games above) (keys_differ is_of_game rows rise)
      (λ key. in_list number_key key games
      ∙ of_games key (find (is_game_at key) games) (found_so (is_game_at key) games)
      ∙ by_game key (find (is_account_at key) accounts) (find (is_game_at key) games)
      (found_so (is_account_at key) accounts) (found_so (is_game_at key) games)
      ∙ ap (λ (r : Option (List ℕ)). is_of_game key && is_some r) (holds key)
      ∙ sym (in_rows is_of_game key rows))
      ∙ keys_counted is_of_game rows
