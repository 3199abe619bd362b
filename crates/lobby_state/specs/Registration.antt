-- Register: a member makes an account of its handle. This server's own.
use Rattle.std.specs.Prelude.{ℕ, true, nat_le, List, [], ◌∷◌, ◌++◌, length, Option, None, Some, is_none}
use Rattle.fics_words.specs.Effect.{Effect}
use Rattle.fics_words.specs.declared.account.Account.{Account}
use Rattle.fics_words.specs.declared.refusal.Refusal.TheVariants.{NotIn, AlreadyRegistered, AccountsFull}
use Rattle.lobby_shelf.specs.Shelf.{account_order, ordered}
use Rattle.lobby_state.specs.declared.acts.LobbyReply.{LobbyReply}
use Rattle.lobby_state.specs.declared.acts.LobbyReply.TheVariants.{Done}
use Rattle.lobby_state.specs.declared.member.Member.{Member}
use Rattle.lobby_state.specs.Holds.{holds}
use Rattle.lobby_state.specs.Lobby.{LobbyState, has_account, is_registered, member_of, most_accounts}

-- the lobby with one account more, behind the others
abbrev pub with_account : LobbyState → Account → LobbyState
with_account lobby account = record lobby { accounts = lobby.accounts ++ account ∷ [] }

-- the lobby with one account more and the order that puts it into the store
abbrev pub with_new_account : LobbyState → Account → LobbyState
with_new_account lobby account =
    record (with_account lobby account) { shelf = ordered lobby.shelf (account_order lobby.shelf account) }

-- the lobby where the member's handle has an account with this digest
abbrev pub registered : LobbyState → Option Member → List ℕ → LobbyState
registered lobby None digest = lobby
registered lobby (Some member) digest = with_new_account lobby (record { name = member.name; digest = digest })

-- a Register is refused where the session isn't a member, where its handle has an account, and where there are 4,096
abbrev pub registration_effect : LobbyState → ℕ → List ℕ → Effect LobbyState LobbyReply
registration_effect lobby session digest = record {
  causes =
      (is_none (member_of lobby session), NotIn) ∷
      (holds (is_registered lobby.accounts) (member_of lobby session), AlreadyRegistered) ∷
      (nat_le most_accounts (length lobby.accounts), AccountsFull) ∷ [];
  memory = true;
  reply = Done;
  after = registered lobby (member_of lobby session) digest;
}

-- an account that was kept elsewhere is refused where its handle has an account, and where there are 4,096
abbrev pub loading_effect : LobbyState → Account → Effect LobbyState (Unit {0})
loading_effect lobby account = record {
  causes =
      (has_account lobby.accounts account.name, AlreadyRegistered) ∷
      (nat_le most_accounts (length lobby.accounts), AccountsFull) ∷ [];
  memory = true;
  reply = tt;
  after = with_account lobby account;
}
