-- The orders that changes make lead a store from what it was to hold to what it is to hold.
use Rattle.std.proofs.Common.{◌≡◌, ◌⊎◌, ℕ, ◌^◌, ◌<◌, Bool, true, false, cond, List, [], ◌∷◌, ◌++◌, Option, None, Some, length, get_or, refl, sym, ap, subst, ◌∙◌, inl, inr, arith}
use Rattle.std.specs.Prelude.{All, bytes_eq}
use Rattle.std.specs.List.{find}
use Rattle.std.proofs.lemmas.Bool.{false_from_ne_true}
use Rattle.std.proofs.lemmas.List.Elements.{All-nil, All-cons}
use Rattle.std.proofs.lemmas.Slice.Eq.{bytes_eq-Decides}
use Rattle.fics_words.specs.Handle.{key_of}
use Rattle.fics_words.specs.declared.account.Account.{Account}
use Rattle.game_records.specs.Keys.{account_key, game_key}
use Rattle.game_records.specs.Spelling.{spelling}
use Rattle.game_records.specs.declared.records.Record.TheVariants as a
use Rattle.game_records.specs.declared.stored_game.StoredGame.{StoredGame}
use Rattle.game_records.proofs.KeysBack.{one_game}
use Rattle.lobby_shelf.specs.declared.order.Order.{Order}
use Rattle.lobby_shelf.specs.declared.shelved.Shelved.{Shelved}
use Rattle.lobby_shelf.specs.Facts.{IsShelf}
use Rattle.lobby_shelf.specs.Numbers.{RiseAbove, next_number, with_game, without_game}
use Rattle.lobby_shelf.specs.Shelf.{ShelfState, account_order, game_order, most_stored, ordered, removal_order, saved, shelved, taken_off}
use Rattle.lobby_shelf.specs.Wanted.{Agrees, OrdersLead, StoreMap, account_record, either_record, game_record, is_account_at, is_game_at, table_with, told_up_to, wanted, with_order}
use Rattle.lobby_shelf.proofs.Finding.{find-with_new, find-with_other, find-without_other, find-without_this, unused-all}
use Rattle.lobby_shelf.proofs.Keeping.{next_number-fits}
use Rattle.lobby_shelf.proofs.Meaning.{saved-first}
use Rattle.lobby_shelf.proofs.Rising.{next_number-least}

-- orders one after another
pub table_with-append : (table : StoreMap) (first rest : List Order)
    → table_with table (first ++ rest) ≡ table_with (table_with table first) rest
table_with-append table [] rest = refl
table_with-append table (order ∷ orders) rest = table_with-append (with_order table order) orders rest

-- the last order decides where it has the key, and else nothing changes
table_with-push : (table : StoreMap) (orders : List Order) (new : Order) (key : List ℕ)
    → table_with table (orders ++ new ∷ []) key ≡ cond (bytes_eq new.key key) new.bytes (table_with table orders key)
table_with-push table orders new key = ap (λ (t : StoreMap). t key) (table_with-append table orders (new ∷ []))

-- what the order is to lead to under each key: its own record under its own key, and what was under every other
push_agrees : (table : StoreMap) (orders : List Order) (new : Order) (key : List ℕ) (before after : Option (List ℕ))
    → table_with table orders key ≡ before → (bytes_eq new.key key ≡ true → after ≡ new.bytes)
    → (bytes_eq new.key key ≡ false → after ≡ before)
    → table_with table (orders ++ new ∷ []) key ≡ after
push_agrees table orders new key before after agreed own others =
    table_with-push table orders new key ∙ ap (λ r. cond (bytes_eq new.key key) new.bytes r) agreed
    ∙ elim (bytes_eq new.key key) as (λ t. bytes_eq new.key key ≡ t → cond t new.bytes before ≡ after) [
      | true ↦ λ same. sym (own same)
      | false ↦ λ differs. sym (others differs)
    ] refl

pub same_key : (one other : List ℕ) → bytes_eq one other ≡ true → one ≡ other
same_key one other h = (bytes_eq-Decides one other).0 h

pub other_key : (one other : List ℕ) → (one ≡ other → ⊥) → bytes_eq one other ≡ false
other_key one other differs = false_from_ne_true (bytes_eq one other) (λ h. differs (same_key one other h))

own_key : (key : List ℕ) → bytes_eq key key ≡ true
own_key key = (bytes_eq-Decides key key).1 refl

-- the key of an account isn't that of a game
pub account_not_game : (letters : List ℕ) (number : ℕ) → account_key letters ≡ game_key number → ⊥
account_not_game letters number e = let heads = ap first_byte e in omega (arith, heads)
  where
    first_byte : List ℕ → ℕ
    first_byte [] = 0
    first_byte (byte ∷ bytes) = byte

pub no_account : (accounts : List Account) (number : ℕ) → find (is_account_at (game_key number)) accounts ≡ None
no_account [] number = refl
no_account (account ∷ accounts) number =
    ap (λ t. cond t (Some account) (find (is_account_at (game_key number)) accounts))
    (other_key (account_key (key_of account.name)) (game_key number) (account_not_game (key_of account.name) number))
    ∙ no_account accounts number

find-push_this : (q : Account → Bool) (accounts : List Account) (new : Account) → find q accounts ≡ None → q new ≡ true
    → find q (accounts ++ new ∷ []) ≡ Some new
find-push_this q [] new none this = ap (λ t. cond t (Some new) None) this
find-push_this q (account ∷ accounts) new none this =
    elim (q account)
    as (λ t.
    cond t (Some account) (find q accounts) ≡ None → cond t (Some account) (find q (accounts ++ new ∷ [])) ≡ Some new) [
      | true ↦ λ bad. cc
      | false ↦ λ rest. find-push_this q accounts new rest this
    ] none

find-push_other : (q : Account → Bool) (accounts : List Account) (new : Account) → q new ≡ false
    → find q (accounts ++ new ∷ []) ≡ find q accounts
find-push_other q [] new other = ap (λ t. cond t (Some new) None) other
find-push_other q (account ∷ accounts) new other =
    ap (λ r. cond (q account) (Some account) r) (find-push_other q accounts new other)

-- a new account
account_leads : (table : StoreMap) (accounts : List Account) (shelf : ShelfState) (account : Account)
    → find (is_account_at (account_key (key_of account.name))) accounts ≡ None → Agrees table accounts shelf
    → Agrees table (accounts ++ account ∷ []) (ordered shelf (account_order shelf account))
account_leads table accounts shelf account new agreed key =
    let own = account_key (key_of account.name) in
    push_agrees table shelf.orders (account_order shelf account) key (wanted accounts shelf.games key)
    (wanted (accounts ++ account ∷ []) shelf.games key) (agreed key)
    (λ same.
    let this = same_key own key same in
    let none = subst (λ k. find (is_account_at k) accounts ≡ None) this new in
    ap (λ r. either_record (account_record r) (game_record (find (is_game_at key) shelf.games)))
    (find-push_this (is_account_at key) accounts account none same))
    (λ differs. ap (λ r. either_record (account_record r) (game_record (find (is_game_at key) shelf.games)))
    (find-push_other (is_account_at key) accounts account differs))

-- the keys of games with other numbers differ
pub no_such_game : (number : ℕ) (row : Shelved) → number < 2 ^ 64 → row.number < 2 ^ 64 → (row.number ≡ number → ⊥)
    → is_game_at (game_key number) row ≡ false
no_such_game number row fits small differs =
    other_key (game_key row.number) (game_key number) (λ e. differs (one_game row.number number small fits e))

pub small_numbers : (low : ℕ) (games : List Shelved) → RiseAbove low games → All (λ row. row.number < 2 ^ 64) games
small_numbers low [] rise = All-nil (λ row. row.number < 2 ^ 64)
small_numbers low (row ∷ games) rise =
    All-cons (λ z. z.number < 2 ^ 64) row games rise.1 (small_numbers row.number games rise.2)

-- a game that goes on the shelf
shelved_leads : (table : StoreMap) (accounts : List Account) (shelf : ShelfState) (game : StoredGame) → IsShelf shelf
    → length shelf.games < most_stored → Agrees table accounts shelf → Agrees table accounts (shelved shelf game)
shelved_leads table accounts shelf game is room agreed key =
    let number = next_number shelf.games in
    let new : Shelved = record { number = number; game = game } in
    let least = next_number-least shelf.games is.numbers in
    let fits = next_number-fits shelf.games is.room in
    push_agrees table shelf.orders (game_order shelf game) key (wanted accounts shelf.games key)
    (wanted accounts (with_game new shelf.games) key) (agreed key)
    (λ same.
    let this = same_key (game_key number) key same in
    let small = small_numbers 0 shelf.games is.numbers in
    let unused = unused-all number shelf.games least.unused in
    let others : All (λ row. is_game_at (game_key number) row ≡ false) shelf.games =
    λ k d h. no_such_game number (get_or shelf.games k d) fits (small k d h) (unused k d h) in
    subst (λ k. wanted accounts (with_game new shelf.games) k ≡ Some (spelling (a.Game game))) this
    (ap (λ r.
    either_record (account_record r) (game_record (find (is_game_at (game_key number)) (with_game new shelf.games))))
    (no_account accounts number)
    ∙ ap game_record
    (find-with_new (is_game_at (game_key number)) new 0 shelf.games least.unused is.numbers (own_key (game_key number))
    others)))
    (λ differs. ap (λ r. either_record (account_record (find (is_account_at key) accounts)) (game_record r))
    (find-with_other (is_game_at key) new 0 shelf.games least.unused is.numbers differs))

-- a game that is taken off
taken_leads : (table : StoreMap) (accounts : List Account) (shelf : ShelfState) (number : ℕ) → IsShelf shelf
    → number < 2 ^ 64
    → Agrees table accounts shelf → Agrees table accounts (taken_off shelf number)
taken_leads table accounts shelf number is fits agreed key =
    push_agrees table shelf.orders (removal_order shelf number) key (wanted accounts shelf.games key)
    (wanted accounts (without_game number shelf.games) key) (agreed key)
    (λ same.
    let this = same_key (game_key number) key same in
    let small = small_numbers 0 shelf.games is.numbers in
    subst (λ k. wanted accounts (without_game number shelf.games) k ≡ None) this
    (ap (λ r.
    either_record (account_record r)
    (game_record (find (is_game_at (game_key number)) (without_game number shelf.games))))
    (no_account accounts number)
    ∙ ap game_record (find-without_this (is_game_at (game_key number)) number shelf.games
    (λ k d h. λ differs. no_such_game number (get_or shelf.games k d) fits (small k d h) differs))))
    (λ differs. ap (λ r. either_record (account_record (find (is_account_at key) accounts)) (game_record r))
    (find-without_other (is_game_at key) number shelf.games
    (λ k d h. λ e. ap (λ n. bytes_eq (game_key n) key) e ∙ differs)))

-- what a store does again: under a key of one of the orders the table doesn't matter, and under others they don't
once : (orders : List Order) (key : List ℕ)
    → ((one other : StoreMap) → table_with one orders key ≡ table_with other orders key)
    ⊎ ((table : StoreMap) → table_with table orders key ≡ table key)
once [] key = inr (λ table. refl)
once (order ∷ orders) key = elim (once orders key) [
  | inl f ↦ inl (λ one other. f (with_order one order) (with_order other order))
  | inr g ↦ elim (bytes_eq order.key key) as (λ t. bytes_eq order.key key ≡ t
      → ((one other : StoreMap) → table_with one (order ∷ orders) key ≡ table_with other (order ∷ orders) key)
      ⊎ ((table : StoreMap) → table_with table (order ∷ orders) key ≡ table key)) [
        | true ↦ λ same. inl (λ one other. g (with_order one order)
            ∙ ap (λ t. cond t order.bytes (one key)) same ∙ sym (ap (λ t. cond t order.bytes (other key)) same)
            ∙ sym (g (with_order other order)))
        | false ↦ λ differs.
            inr (λ table. g (with_order table order) ∙ ap (λ t. cond t order.bytes (table key)) differs)
      ] refl
]

twice : (table : StoreMap) (orders : List Order) (key : List ℕ)
    → table_with (table_with table orders) orders key ≡ table_with table orders key
twice table orders key = elim (once orders key) [
  | inl f ↦ f (table_with table orders) table
  | inr g ↦ g (table_with table orders)
]

-- tables that hold the same under a key still do after the same orders
pub same_table : (one other : StoreMap) (orders : List Order) (key : List ℕ) → one key ≡ other key
    → table_with one orders key ≡ table_with other orders key
same_table one other [] key same = same
same_table one other (order ∷ orders) key same =
    same_table (with_order one order) (with_order other order) orders key
    (ap (λ r. cond (bytes_eq order.key key) order.bytes r) same)

pub orders-lead : OrdersLead
orders-lead = record {
  account = account_leads;
  goes_on = shelved_leads;
  comes_off = taken_leads;
  saved = λ table accounts shelf upto is agreed key.
      ap (λ (t : StoreMap). t key) (sym (table_with-append table (told_up_to shelf upto) (saved shelf upto).orders))
      ∙ ap (λ (orders : List Order). table_with table orders key) (sym ((saved-first shelf is).first upto))
      ∙ agreed key;
  again = λ table first rest key.
      ap (λ (t : StoreMap). t key) (table_with-append (table_with table first) first rest)
      ∙ same_table (table_with (table_with table first) first) (table_with table first) rest key (twice table first key)
      ∙ sym (ap (λ (t : StoreMap). t key) (table_with-append table first rest));
}
