-- SimNext: a giver goes to the next of its places, in a circle. This server's own.
use Rattle.std.specs.Prelude.{ℕ}
use Rattle.fics_words.specs.Effect.{Effect}
use Rattle.lobby_state.specs.declared.acts.LobbyReply.{LobbyReply}
use Rattle.lobby_state.specs.Lobby.{LobbyState, places_of}
use Rattle.lobby_state.specs.OwnPlaces.{changing}
use Rattle.lobby_state.specs.Places.{turning_place}
use Rattle.simul_control.specs.declared.direction.Direction.TheVariants.{Next}

-- a SimNext is refused where the session isn't a member; and where it gives no simul, or has no place
abbrev pub sim_next_effect : LobbyState → ℕ → Effect LobbyState LobbyReply
sim_next_effect lobby session = changing lobby session (turning_place Next (places_of lobby session))
