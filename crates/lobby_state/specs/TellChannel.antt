-- TellChannel: a member says something to all others in a channel. This server's own, and the words are FICS's.
use Rattle.std.specs.Prelude.{ℕ, Bool, true, not, ◌&&◌, List, [], ◌∷◌, ◌++◌, Option, None, Some, is_none, codes, decimal}
use Rattle.channel_feed.specs.declared.channels.Membership.{Membership}
use Rattle.channel_feed.specs.Channels.{is_in}
use Rattle.fics_words.specs.Effect.{Effect}
use Rattle.fics_words.specs.declared.refusal.Refusal.TheVariants.{NotIn, NotInChannel}
use Rattle.lobby_state.specs.declared.acts.LobbyReply.{LobbyReply}
use Rattle.lobby_state.specs.declared.acts.LobbyReply.TheVariants.{Told}
use Rattle.lobby_state.specs.declared.member.Member.{Member}
use Rattle.lobby_state.specs.Broadcast.{broadcast, heard}
use Rattle.lobby_state.specs.Lobby.{LobbyState, is_session, member_of}
use Rattle.lobby_state.specs.Said.{spoken_line}

-- what stands between the name and the text of a line to a channel
abbrev pub channel_words : ℕ → List ℕ
channel_words channel = codes "(" ++ decimal channel ++ codes "): "

-- the member is another one than the session's, and is in the channel
abbrev pub hears_channel : List Membership → ℕ → ℕ → Member → Bool
hears_channel rows session channel member = not (is_session session member) && is_in rows member.session channel

-- the lobby where the member has told the channel something
abbrev pub channel_told : LobbyState → ℕ → ℕ → Option Member → List ℕ → LobbyState
channel_told lobby session channel None text = lobby
channel_told lobby session channel (Some caller) text = record lobby {
  members = broadcast (hears_channel lobby.channels session channel)
      (spoken_line caller.name (channel_words channel) text) lobby.members;
}

-- a TellChannel is refused where the session isn't a member, and where it isn't in the channel; it tells how many heard
-- it
abbrev pub tell_channel_effect : LobbyState → ℕ → ℕ → List ℕ → Effect LobbyState LobbyReply
tell_channel_effect lobby session channel text = record {
  causes =
      (is_none (member_of lobby session), NotIn) ∷
      (not (is_in lobby.channels session channel), NotInChannel) ∷ [];
  memory = true;
  reply = Told (heard (hears_channel lobby.channels session channel) lobby.members);
  after = channel_told lobby session channel (member_of lobby session) text;
}
