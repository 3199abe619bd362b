-- List: a member puts a name on one of its two lists, or takes it off; and what the lists keep away. The lists are
-- FICS's.
use Rattle.std.specs.Prelude.{ℕ, Bool, true, false, ◌||◌, List, [], ◌∷◌, Option, None, Some, is_none}
use Rattle.std.specs.List.{find}
use Rattle.channel_feed.specs.NameLists.{adding, is_listed, removing}
use Rattle.fics_words.specs.Effect.{Cause, Effect}
use Rattle.fics_words.specs.Handle.{key_of}
use Rattle.fics_words.specs.declared.refusal.Refusal.TheVariants.{NotIn}
use Rattle.tables.specs.Rows.{change_first}
use Rattle.lobby_state.specs.declared.acts.LobbyReply.{LobbyReply}
use Rattle.lobby_state.specs.declared.acts.LobbyReply.TheVariants.{Done}
use Rattle.lobby_state.specs.declared.member.Member.{Member}
use Rattle.lobby_state.specs.declared.acts.name_list.WhichList.{WhichList}
use Rattle.lobby_state.specs.declared.acts.name_list.WhichList.TheVariants.{Censor, Noplay}
use Rattle.lobby_state.specs.Lobby.{LobbyState, is_session, member_of}

-- the other has the member on its censor list, and so doesn't hear it
abbrev pub censors : Option Member → Member → Bool
censors None other = false
censors (Some member) other = is_listed other.censor (key_of member.name)

-- the other has the member on one of its lists, and so doesn't play with it
abbrev pub avoids : Option Member → Member → Bool
avoids None other = false
avoids (Some member) other = is_listed other.noplay (key_of member.name) || is_listed other.censor (key_of member.name)

-- the names on that list of the member
abbrev pub names_on : WhichList → Member → List (List ℕ)
names_on Censor member = member.censor
names_on Noplay member = member.noplay

-- the member with these names on that list
abbrev pub with_names_on : WhichList → List (List ℕ) → Member → Member
with_names_on Censor names member = record member { censor = names }
with_names_on Noplay names member = record member { noplay = names }

-- the names afterwards: with this one where it says on, and else without it
abbrev pub names_with : List (List ℕ) → List ℕ → Bool → Effect (List (List ℕ)) (Unit {0})
names_with names key true = adding names key
names_with names key false = removing names key

-- the same change of a member's list
abbrev pub listing : WhichList → List ℕ → Bool → Member → Effect Member (Unit {0})
listing which key on member =
    let change = names_with (names_on which member) key on in
    record {
      causes = change.causes;
      memory = change.memory;
      reply = tt;
      after = with_names_on which change.after member;
    }

-- why the list of a member can't be changed so
abbrev pub list_causes : WhichList → List ℕ → Bool → Option Member → List Cause
list_causes which key on None = []
list_causes which key on (Some member) = (listing which key on member).causes

-- the change of the list of the session's member, among these members
abbrev pub change_among : ℕ → WhichList → List ℕ → Bool → List Member → Effect (List Member) (Unit {0})
change_among session which key on members = record {
  causes = list_causes which key on (find (is_session session) members);
  memory = on;
  reply = tt;
  after = change_first (is_session session) (λ member. (listing which key on member).after) members;
}

-- a List is refused where the session isn't a member; an adding where the name is on the list, and where 100 are; a
-- removing where the name isn't on the list. Nobody needs to have the name
abbrev pub list_effect : LobbyState → ℕ → WhichList → List ℕ → Bool → Effect LobbyState LobbyReply
list_effect lobby session which key on =
    let change = change_among session which key on lobby.members in
    record {
      causes = (is_none (member_of lobby session), NotIn) ∷ change.causes;
      memory = change.memory;
      reply = Done;
      after = record lobby { members = change.after };
    }
