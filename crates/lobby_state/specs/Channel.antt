-- Channel: a member joins or leaves a channel. This server's own.
use Rattle.std.specs.Prelude.{ℕ, Bool, true, false, List, ◌∷◌, is_none}
use Rattle.channel_feed.specs.declared.channels.Membership.{Membership}
use Rattle.channel_feed.specs.Channels.{joining, leaving_channel}
use Rattle.fics_words.specs.Effect.{Effect}
use Rattle.fics_words.specs.declared.refusal.Refusal.TheVariants.{NotIn}
use Rattle.lobby_state.specs.declared.acts.LobbyReply.{LobbyReply}
use Rattle.lobby_state.specs.declared.acts.LobbyReply.TheVariants.{Done}
use Rattle.lobby_state.specs.Lobby.{LobbyState, member_of}

-- who is in the channels afterwards: the member joins where it says on, and else leaves
abbrev pub change_of : List Membership → ℕ → ℕ → Bool → Effect (List Membership) (Unit {0})
change_of rows session channel true = joining rows session channel
change_of rows session channel false = leaving_channel rows session channel

-- a Channel is refused where the session isn't a member; a joining where it is in the channel, and where it is in 20;
-- a leaving where it isn't in the channel
abbrev pub channel_effect : LobbyState → ℕ → ℕ → Bool → Effect LobbyState LobbyReply
channel_effect lobby session channel on =
    let change = change_of lobby.channels session channel on in
    record {
      causes = (is_none (member_of lobby session), NotIn) ∷ change.causes;
      memory = change.memory;
      reply = Done;
      after = record lobby { channels = change.after };
    }
