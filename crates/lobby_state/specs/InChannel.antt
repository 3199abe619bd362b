-- InChannel: a member asks who is in a channel. This server's own.
use Rattle.std.specs.Prelude.{ℕ, Bool, true, List, [], ◌∷◌, is_none, filter}
use Rattle.channel_feed.specs.declared.channels.Membership.{Membership}
use Rattle.channel_feed.specs.Channels.{is_in}
use Rattle.fics_words.specs.Effect.{Effect}
use Rattle.fics_words.specs.declared.refusal.Refusal.TheVariants.{NotIn}
use Rattle.lobby_state.specs.declared.acts.LobbyReply.{LobbyReply}
use Rattle.lobby_state.specs.declared.acts.LobbyReply.TheVariants.{Lines}
use Rattle.lobby_state.specs.declared.member.Member.{Member}
use Rattle.lobby_state.specs.Lobby.{LobbyState, member_of}
use Rattle.lobby_state.specs.Who.{with_names}

-- the member is in the channel
abbrev pub is_there : List Membership → ℕ → Member → Bool
is_there rows channel member = is_in rows member.session channel

-- the handles of the members that are in the channel, in the order of their keys
abbrev pub in_channel_lines : LobbyState → ℕ → List (List ℕ)
in_channel_lines lobby channel = with_names [] (filter (is_there lobby.channels channel) lobby.members)

-- an InChannel is refused where the session isn't a member; who asks needn't be in the channel
abbrev pub in_channel_effect : LobbyState → ℕ → ℕ → Effect LobbyState LobbyReply
in_channel_effect lobby session channel = record {
  causes = (is_none (member_of lobby session), NotIn) ∷ [];
  memory = true;
  reply = Lines (in_channel_lines lobby channel);
  after = lobby;
}
