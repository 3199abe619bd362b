-- What a member does with its own places alone: it begins and ends a simul, and goes from one place to another. This
-- server's own.
use Rattle.std.specs.Prelude.{ℕ, false, ◌∷◌, is_none}
use Rattle.fics_words.specs.Effect.{Effect}
use Rattle.fics_words.specs.declared.refusal.Refusal.TheVariants.{NotIn}
use Rattle.tables.specs.Rows.{change_first}
use Rattle.lobby_state.specs.declared.acts.LobbyReply.{LobbyReply}
use Rattle.lobby_state.specs.declared.acts.LobbyReply.TheVariants.{Done}
use Rattle.lobby_state.specs.declared.member.Member.{Member}
use Rattle.lobby_state.specs.Lobby.{LobbyState, is_session, member_of}
use Rattle.lobby_state.specs.Places.{PlaceList}

-- the member with these places
abbrev pub with_places : PlaceList → Member → Member
with_places places member = record member { places = places }

-- the lobby where the member of the session has these places
abbrev pub placed : LobbyState → ℕ → PlaceList → LobbyState
placed lobby session places =
    record lobby { members = change_first (is_session session) (with_places places) lobby.members }

-- a member makes this change of its places: refused where the session isn't a member, and where something stands
-- against the change
abbrev pub changing : LobbyState → ℕ → Effect PlaceList (Unit {0}) → Effect LobbyState LobbyReply
changing lobby session change = record {
  causes = (is_none (member_of lobby session), NotIn) ∷ change.causes;
  memory = false;
  reply = Done;
  after = placed lobby session change.after;
}
