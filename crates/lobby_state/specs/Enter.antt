-- Enter: a session becomes a member under a handle, or as a guest. This server's own.
use Rattle.std.specs.Prelude.{ℕ, Bool, true, false, ◌||◌, nat_le, List, [], ◌∷◌, ◌++◌, length, map, Option, None, Some, is_some}
use Rattle.fics_words.specs.declared.account.Account.{Account}
use Rattle.fics_words.specs.declared.refusal.Refusal.TheVariants.{HallFull, HandleTaken, WrongPassword}
use Rattle.fics_words.specs.Effect.{Effect}
use Rattle.fics_words.specs.Handle.{key_of}
use Rattle.login_handles.specs.declared.check.Check.{Check}
use Rattle.login_handles.specs.declared.check.Check.TheVariants.{Free, Wrong, NeedPassword as MissesPassword}
use Rattle.login_handles.specs.Accounts.{account_of, check_of}
use Rattle.login_handles.specs.Guests.{guest_among}
use Rattle.lobby_state.specs.declared.acts.LobbyReply.{LobbyReply}
use Rattle.lobby_state.specs.declared.acts.LobbyReply.TheVariants.{Entered, NeedPassword}
use Rattle.lobby_state.specs.declared.acts.enter.Entrant.{Entrant}
use Rattle.lobby_state.specs.declared.member.Member.{Member}
use Rattle.lobby_state.specs.declared.wants.Wants.{Wants}
use Rattle.lobby_state.specs.Lobby.{LobbyState, most_members, member_of, holder_of}
use Rattle.lobby_state.specs.Places.{no_places}

-- the keys of the handles that members and accounts have
abbrev pub names_taken : LobbyState → List (List ℕ)
names_taken lobby =
    map (λ member. key_of member.name) lobby.members ++ map (λ account. key_of account.name) lobby.accounts

-- the name of the guest that enters next: the least that no member and no account has
abbrev pub guest_in : LobbyState → List ℕ
guest_in lobby = guest_among (names_taken lobby)

-- a handle, in the spelling of its account where it has one
abbrev pub spelled : List ℕ → Option Account → List ℕ
spelled name None = name
spelled name (Some account) = account.name

-- who asks to come in: a guest; or somebody who gives a handle, and mostly a password where that has an account.
-- Without an account a password means nothing
abbrev pub entrant_of : LobbyState → Option (List ℕ) → Option (List ℕ) → Entrant
entrant_of lobby None digest = record { name = guest_in lobby; check = Free }
entrant_of lobby (Some name) digest =
    let account = account_of lobby.accounts (key_of name) in
    record { name = spelled name account; check = check_of account digest }

-- everything that others send is wanted
abbrev pub all_wanted : Wants
all_wanted = record { matches = true; shouts = true; seeks = true }

-- one who comes in
abbrev pub new_member : ℕ → List ℕ → Member
new_member session name = record {
  session = session;
  name = name;
  going = false;
  places = no_places;
  wants = all_wanted;
  censor = [];
  noplay = [];
  waiting = [];
}

-- the new member stands behind the other members
abbrev pub with_new_member : LobbyState → ℕ → List ℕ → LobbyState
with_new_member lobby session name =
    record lobby { members = lobby.members ++ new_member session name ∷ [] }

-- the account has another password
abbrev pub is_wrong : Check → Bool
is_wrong Wrong = true
is_wrong _ = false

-- what one who may come in is answered: a password is asked for where it is missing
abbrev pub welcome : Check → List ℕ → LobbyReply
welcome MissesPassword name = NeedPassword
welcome _ name = Entered name

-- and what stands afterwards: nothing else where the password is missing
abbrev pub welcomed : Check → LobbyState → ℕ → List ℕ → LobbyState
welcomed MissesPassword lobby session name = lobby
welcomed _ lobby session name = with_new_member lobby session name

-- an Enter is refused where there are 256 members; where this session has entered or a member has the handle; and where
-- the password isn't the account's
abbrev pub enter_effect : LobbyState → ℕ → Option (List ℕ) → Option (List ℕ) → Effect LobbyState LobbyReply
enter_effect lobby session name digest =
    let entrant = entrant_of lobby name digest in
    record {
      causes =
          (nat_le most_members (length lobby.members), HallFull) ∷
          (is_some (member_of lobby session) || is_some (holder_of lobby (key_of entrant.name)), HandleTaken) ∷
          (is_wrong entrant.check, WrongPassword) ∷ [];
      memory = true;
      reply = welcome entrant.check entrant.name;
      after = welcomed entrant.check lobby session entrant.name;
    }

-- coming in, where nothing stands against it
abbrev pub entering : LobbyState → ℕ → List ℕ → Effect LobbyState LobbyReply
entering lobby session name =
    record { causes = []; memory = true; reply = Entered name; after = with_new_member lobby session name }
