-- Find: a member asks where a player plays. This server's own.
use Rattle.std.specs.Prelude.{ℕ, false, List, [], ◌∷◌, Option, None, Some, is_none, slice_get}
use Rattle.fics_words.specs.Effect.{Effect}
use Rattle.fics_words.specs.declared.refusal.Refusal.TheVariants.{NotIn, NoSuchPlayer, NotPlaying}
use Rattle.lobby_state.specs.declared.acts.LobbyReply.{LobbyReply}
use Rattle.lobby_state.specs.declared.acts.LobbyReply.TheVariants.{Done, Found}
use Rattle.lobby_state.specs.declared.member.Member.{Member}
use Rattle.simul_control.specs.declared.place.Place.{Place}
use Rattle.lobby_state.specs.Lobby.{LobbyState, member_of, named, places_in}

-- the present place of a member, if it has any place; nobody has none
abbrev pub present_of : Option Member → Option Place
present_of member = slice_get (places_in member).rows (places_in member).at

-- the reply that a place is, where there is one
abbrev pub found : Option Place → LobbyReply
found None = Done
found (Some place) = Found place

-- a Find is refused where the session isn't a member; where nobody has the handle, or that member is going; and where
-- the player has no place
abbrev pub find_effect : LobbyState → ℕ → List ℕ → Effect LobbyState LobbyReply
find_effect lobby session name = record {
  causes =
      (is_none (member_of lobby session), NotIn) ∷
      (is_none (named lobby name), NoSuchPlayer) ∷
      (is_none (present_of (named lobby name)), NotPlaying) ∷ [];
  memory = false;
  reply = found (present_of (named lobby name));
  after = lobby;
}
