-- Where: a session asks for its places. This server's own.
use Rattle.std.specs.Prelude.{ℕ, false, []}
use Rattle.fics_words.specs.Effect.{Effect}
use Rattle.lobby_state.specs.declared.acts.LobbyReply.{LobbyReply}
use Rattle.lobby_state.specs.declared.acts.LobbyReply.TheVariants.{Places}
use Rattle.lobby_state.specs.Lobby.{LobbyState, places_of}

-- a Where is never refused: a session that isn't a member has no places
abbrev pub where_effect : LobbyState → ℕ → Effect LobbyState LobbyReply
where_effect lobby session = record {
  causes = [];
  memory = false;
  reply = Places (places_of lobby session);
  after = lobby;
}
