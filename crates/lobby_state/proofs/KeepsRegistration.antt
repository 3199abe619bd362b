-- What a Register and the loading of an account keep.
use Rattle.std.proofs.Common.{◌≡◌, ℕ, false, leb, List, Option, None, Some, Result, length, refl, subst}
use Rattle.std.specs.Prelude.{is_some}
use Rattle.fics_words.specs.Effect.{NoneHolds, Takes}
use Rattle.fics_words.specs.Handle.{key_of}
use Rattle.fics_words.specs.declared.account.Account.{Account}
use Rattle.fics_words.specs.declared.fail.Fail.{Fail}
use Rattle.login_handles.specs.Accounts.{account_of}
use Rattle.login_handles.proofs.AccountLists.{HasOneEach-append, length-one_more}
use Rattle.lobby_state.specs.declared.member.Member.{Member}
use Rattle.lobby_state.specs.Holds.{holds}
use Rattle.lobby_state.specs.Lobby.{LobbyState, has_account, is_registered, member_of}
use Rattle.lobby_state.specs.Registration.{loading_effect, registered, registration_effect, with_account, with_new_account}
use Rattle.lobby_state.specs.WellFormed.{IsWellFormed, sessions_in}
use Rattle.lobby_shelf.specs.Shelf.{account_order}
use Rattle.lobby_state.proofs.ShelfRows.{AreCounted-account, AreCounted-new_account, IsShelfOf-ordered}
use Rattle.lobby_state.proofs.Follows.{Follows, if_there, stays}
use Rattle.lobby_state.proofs.LinesKept.{begins_same}
use Rattle.lobby_state.proofs.Refusals.{holds_taken}
use Rattle.std.proofs.lemmas.Bool.{leb-false}

none_there : (o : Option Account) → is_some o ≡ false → o ≡ None
none_there None e = refl
none_there (Some account) e = cc

-- an account of a handle without one, where there is room for it
with_one_account : (lobby : LobbyState) (account : Account) → has_account lobby.accounts account.name ≡ false
    → leb 4096 (length lobby.accounts) ≡ false
    → IsWellFormed lobby → IsWellFormed (with_account lobby account)
with_one_account lobby account free room h =
    let fresh =
    HasOneEach-append lobby.accounts account h.accounts.0
    (none_there (account_of lobby.accounts (key_of account.name)) free) in
    let few = length-one_more lobby.accounts account (leb-false 4096 (length lobby.accounts) room) in
    assumption
    (fresh, few, AreCounted-account lobby.accounts account lobby.games lobby.started lobby.shelf h.counted, h)

-- and with the order that puts it into the store
with_new_one : (lobby : LobbyState) (account : Account) → has_account lobby.accounts account.name ≡ false
    → leb 4096 (length lobby.accounts) ≡ false
    → IsWellFormed lobby → IsWellFormed (with_new_account lobby account)
with_new_one lobby account free room h =
    let more = with_one_account lobby account free room h in
    let counted = AreCounted-new_account lobby.accounts account lobby.games lobby.started lobby.shelf h.counted in
    assumption (
      more.accounts,
      IsShelfOf-ordered (sessions_in lobby.members) lobby.shelf (account_order lobby.shelf account) refl h.shelf,
      counted,
      h,
    )

pub registered_follows : (lobby : LobbyState) (session : ℕ) (digest : List ℕ)
    → Follows (Unit {0} × NoneHolds (registration_effect lobby session digest).causes) ⊥ lobby
    (registered lobby (member_of lobby session) digest)
registered_follows lobby session digest =
    if_there (λ member. registered lobby member digest) (member_of lobby session) stays (λ member found.
    record {
      formed = λ fits h.
          let unknown =
          subst (λ (o : Option Member). holds (is_registered lobby.accounts) o ≡ false) found fits.1.1.0 in
          with_new_one lobby (record { name = member.name; digest = digest }) unknown fits.1.1.1.0 h;
      games = refl;
      lines = λ _. begins_same _;
      store = λ said. absurd said;
    })

-- a lobby in which an account was loaded is well-formed
pub IsWellFormed-loaded : (lobby : LobbyState) (account : Account) (new : LobbyState) (result : Result (Unit {0}) Fail)
    → IsWellFormed lobby → Takes (loading_effect lobby account) lobby new result → IsWellFormed new
IsWellFormed-loaded lobby account new result h =
    holds_taken IsWellFormed lobby (loading_effect lobby account) new result h
    (λ allowed. with_one_account lobby account allowed.0 allowed.1.0 h)
