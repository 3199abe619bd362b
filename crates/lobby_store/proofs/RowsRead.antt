-- A pair whose record is known is a row where its key is the record's own, and no other row.
use Rattle.std.proofs.Common.{◌≡◌, ℕ, Bool, true, not, List, ap, subst}
use Rattle.fics_words.specs.Handle.{key_of}
use Rattle.fics_words.specs.declared.account.Account.{Account}
use Rattle.game_records.specs.Keys.{account_key}
use Rattle.game_records.specs.Replays.{Replays}
use Rattle.game_records.specs.Spelling.{IsSpelled}
use Rattle.game_records.specs.declared.records.Record.{Record}
use Rattle.game_records.specs.declared.records.Record.TheVariants as a
use Rattle.game_records.specs.declared.stored_game.StoredGame.{StoredGame}
use Rattle.game_records.proofs.ReadBack.{one_spelled}
use Rattle.lobby_store.specs.declared.reading.StoreRow.TheVariants.{Account as AnAccount, Game as AGame}
use Rattle.lobby_store.specs.Rows.{IsNoRow}

-- the fact of a record that is an account, or that is a game
OfAccount : (Account → Type 0) → Record → Type 0
OfAccount P (a.Account account) = P account
OfAccount P (a.Game game) = ⊥

OfGame : (StoredGame → Type 0) → Record → Type 0
OfGame P (a.Account account) = ⊥
OfGame P (a.Game game) = P game

pub account_elsewhere : (account : Account) (pair : List ℕ × List ℕ) → IsSpelled (a.Account account) pair.1
    → (pair.0 ≡ account_key (key_of account.name) → ⊥) → IsNoRow pair
unfolding OfAccount OfGame
account_elsewhere account pair spelled elsewhere (AnAccount other) row =
    elsewhere (subst (OfAccount (λ (x : Account). pair.0 ≡ account_key (key_of x.name)))
    (one_spelled (a.Account other) (a.Account account) pair.1 row.spelled spelled) row.own)
account_elsewhere account pair spelled elsewhere (AGame number game) row =
    subst (OfGame (λ x. Unit {0})) (one_spelled (a.Game game) (a.Account account) pair.1 row.spelled spelled) tt

pub game_not_replayed : (game : StoredGame) (pair : List ℕ × List ℕ) → IsSpelled (a.Game game) pair.1
    → (Replays game → ⊥) → IsNoRow pair
unfolding OfAccount OfGame
game_not_replayed game pair spelled bad (AnAccount account) row =
    subst (OfAccount (λ x. Unit {0})) (one_spelled (a.Account account) (a.Game game) pair.1 row.spelled spelled) tt
game_not_replayed game pair spelled bad (AGame number other) row =
    bad (subst (OfGame Replays) (one_spelled (a.Game other) (a.Game game) pair.1 row.spelled spelled) row.replays)

pub no_record : (pair : List ℕ × List ℕ) → ((r : Record) → IsSpelled r pair.1 → ⊥) → IsNoRow pair
no_record pair none (AnAccount account) row = none (a.Account account) row.spelled
no_record pair none (AGame number game) row = none (a.Game game) row.spelled

pub not_both : (b : Bool) → b ≡ true → not b ≡ true → ⊥
not_both b so other = let turned = ap not so in cc
