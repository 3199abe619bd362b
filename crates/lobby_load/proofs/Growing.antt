-- What a lobby wants of a store as an account or a stored game comes.
use Rattle.std.proofs.Common.{◌≡◌, ℕ, ◌^◌, ◌<◌, true, false, cond, List, [], ◌∷◌, ◌++◌, None, Some, All, get_or, refl, sym, ap, subst, ◌∙◌}
use Rattle.std.specs.Prelude.{bytes_eq}
use Rattle.std.specs.List.{find}
use Rattle.fics_words.specs.Handle.{key_of}
use Rattle.fics_words.specs.declared.account.Account.{Account}
use Rattle.game_records.specs.Keys.{account_key, game_key}
use Rattle.game_records.specs.Spelling.{spelling}
use Rattle.game_records.specs.declared.records.Record.TheVariants as a
use Rattle.game_records.specs.declared.stored_game.StoredGame.{StoredGame}
use Rattle.lobby_shelf.specs.declared.shelved.Shelved.{Shelved}
use Rattle.lobby_shelf.specs.Numbers.{AreInOrder, is_used, with_game}
use Rattle.lobby_shelf.specs.Shelf.{ShelfState, empty}
use Rattle.lobby_shelf.specs.Wanted.{account_record, either_record, game_record, is_account_at, is_game_at, wanted}
use Rattle.lobby_shelf.proofs.Finding.{find-with_new, find-with_other, unused-all}
use Rattle.lobby_shelf.proofs.Leading.{orders-lead, same_key, no_account, no_such_game, small_numbers}
use Rattle.login_handles.proofs.GuestNames.{bytes_eq-self}

-- an account that comes is wanted under its own key, and nothing else changes
pub wanted_account : (accounts : List Account) (games : List Shelved) (account : Account) (key : List ℕ)
    → find (is_account_at (account_key (key_of account.name))) accounts ≡ None
    → wanted (accounts ++ account ∷ []) games key
    ≡ cond (bytes_eq (account_key (key_of account.name)) key) (Some (spelling (a.Account account)))
    (wanted accounts games key)
wanted_account accounts games account key new =
    let shelf : ShelfState = record empty { games = games } in
    sym (orders-lead.account (wanted accounts games) accounts shelf account new (λ k. refl) key)

by_key : {X : Type 0} (own key : List ℕ) (this that : X) (of : X) → (own ≡ key → of ≡ this)
    → (bytes_eq own key ≡ false → of ≡ that)
    → of ≡ cond (bytes_eq own key) this that
by_key own key this that of same other =
    elim (bytes_eq own key) as (λ t. bytes_eq own key ≡ t → of ≡ cond t this that) [
      | true ↦ λ yes. same (same_key own key yes)
      | false ↦ λ no. other no
    ] refl

-- a stored game that comes is wanted under its own key, and nothing else changes
pub wanted_game : (accounts : List Account) (games : List Shelved) (number : ℕ) (game : StoredGame) (key : List ℕ)
    → number < 2 ^ 64 → is_used games number ≡ false → AreInOrder games
    → wanted accounts (with_game (record { number = number; game = game }) games) key
    ≡ cond (bytes_eq (game_key number) key) (Some (spelling (a.Game game))) (wanted accounts games key)
wanted_game accounts games number game key fits unused rise =
    let new : Shelved = record { number = number; game = game } in
    let own = game_key number in
    let small = small_numbers 0 games rise in
    let differ = unused-all number games unused in
    let others : All (λ row. is_game_at own row ≡ false) games =
    λ k d lt. no_such_game number (get_or games k d) fits (small k d lt) (differ k d lt) in
    by_key own key (Some (spelling (a.Game game))) (wanted accounts games key)
    (wanted accounts (with_game new games) key)
    (λ same. subst (λ k. wanted accounts (with_game new games) k ≡ Some (spelling (a.Game game))) same
    (ap (λ r. either_record (account_record r) (game_record (find (is_game_at own) (with_game new games))))
    (no_account accounts number)
    ∙ ap game_record (find-with_new (is_game_at own) new 0 games unused rise (bytes_eq-self own) others)))
    (λ other. ap (λ r. either_record (account_record (find (is_account_at key) accounts)) (game_record r))
    (find-with_other (is_game_at key) new 0 games unused rise other))
