-- SimOpen: a member begins to give a simul, or ends it. This server's own.
use Rattle.std.specs.Prelude.{ℕ}
use Rattle.fics_words.specs.Effect.{Effect}
use Rattle.lobby_state.specs.declared.acts.LobbyReply.{LobbyReply}
use Rattle.lobby_state.specs.Lobby.{LobbyState, places_of}
use Rattle.lobby_state.specs.OwnPlaces.{changing}
use Rattle.lobby_state.specs.Places.{switching}

-- a SimOpen is refused where the session isn't a member; and where it has a place as it would begin, or two or more as
-- it would end
abbrev pub sim_open_effect : LobbyState → ℕ → Effect LobbyState LobbyReply
sim_open_effect lobby session = changing lobby session (switching (places_of lobby session))
