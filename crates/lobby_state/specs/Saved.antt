-- Saved: a steward tells which save orders a store has carried out. This server's own.
use Rattle.std.specs.Prelude.{ℕ, false, []}
use Rattle.fics_words.specs.Effect.{Effect}
use Rattle.lobby_shelf.specs.Shelf.{saved}
use Rattle.lobby_state.specs.declared.acts.LobbyReply.{LobbyReply}
use Rattle.lobby_state.specs.declared.acts.LobbyReply.TheVariants.{Done}
use Rattle.lobby_state.specs.Lobby.{LobbyState}

-- a Saved is never refused: the save orders up to that number are gone
abbrev pub saved_effect : LobbyState → ℕ → Effect LobbyState LobbyReply
saved_effect lobby upto = record {
  causes = [];
  memory = false;
  reply = Done;
  after = record lobby { shelf = saved lobby.shelf upto };
}
