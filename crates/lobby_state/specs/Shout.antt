-- Shout: a member says something to all others who want to hear it. This server's own.
use Rattle.std.specs.Prelude.{ℕ, Bool, true, not, ◌&&◌, List, [], ◌∷◌, Option, None, Some, is_none, codes}
use Rattle.fics_words.specs.Effect.{Effect}
use Rattle.fics_words.specs.declared.refusal.Refusal.TheVariants.{NotIn}
use Rattle.lobby_state.specs.declared.acts.LobbyReply.{LobbyReply}
use Rattle.lobby_state.specs.declared.acts.LobbyReply.TheVariants.{Told}
use Rattle.lobby_state.specs.declared.member.Member.{Member}
use Rattle.lobby_state.specs.Broadcast.{broadcast, heard}
use Rattle.lobby_state.specs.Lobby.{LobbyState, is_session, member_of}
use Rattle.lobby_state.specs.Said.{spoken_line}

-- the member is another one than the session's, and wants to hear what others shout
abbrev pub hears_shouts : ℕ → Member → Bool
hears_shouts session member = not (is_session session member) && member.wants.shouts

-- the lobby where the member has shouted
abbrev pub shouted : LobbyState → ℕ → Option Member → List ℕ → LobbyState
shouted lobby session None text = lobby
shouted lobby session (Some caller) text = record lobby {
  members = broadcast (hears_shouts session) (spoken_line caller.name (codes " shouts: ") text) lobby.members;
}

-- a Shout is refused where the session isn't a member; it tells how many heard it
abbrev pub shout_effect : LobbyState → ℕ → List ℕ → Effect LobbyState LobbyReply
shout_effect lobby session text = record {
  causes = (is_none (member_of lobby session), NotIn) ∷ [];
  memory = true;
  reply = Told (heard (hears_shouts session) lobby.members);
  after = shouted lobby session (member_of lobby session) text;
}
