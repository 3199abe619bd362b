-- Bye: a session is gone. This server's own.
use Rattle.std.specs.Prelude.{ℕ, false, not, [], filter}
use Rattle.fics_words.specs.Effect.{Effect}
use Rattle.lobby_state.specs.declared.acts.LobbyReply.{LobbyReply}
use Rattle.lobby_state.specs.declared.acts.LobbyReply.TheVariants.{Done}
use Rattle.lobby_state.specs.Lobby.{LobbyState, is_session, without_challenges, without_channels, without_partner, without_resumes, without_seeks}

-- a Bye is never refused: the member is gone and is in no channel, and gone is each challenge, each seek, each request
-- and the link that still named it
abbrev pub bye_effect : LobbyState → ℕ → Effect LobbyState LobbyReply
bye_effect lobby session = record {
  causes = [];
  memory = false;
  reply = Done;
  after = without_resumes session
      (without_partner session (without_channels session (without_seeks session (without_challenges session
      (record lobby { members = filter (λ member. not (is_session session member)) lobby.members })))));
}
