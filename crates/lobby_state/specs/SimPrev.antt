-- SimPrev: a giver goes to the previous of its places, in a circle. This server's own.
use Rattle.std.specs.Prelude.{ℕ}
use Rattle.fics_words.specs.Effect.{Effect}
use Rattle.lobby_state.specs.declared.acts.LobbyReply.{LobbyReply}
use Rattle.lobby_state.specs.Lobby.{LobbyState, places_of}
use Rattle.lobby_state.specs.OwnPlaces.{changing}
use Rattle.lobby_state.specs.Places.{turning_place}
use Rattle.simul_control.specs.declared.direction.Direction.TheVariants.{Previous}

-- a SimPrev is refused where the session isn't a member; and where it gives no simul, or has no place
abbrev pub sim_prev_effect : LobbyState → ℕ → Effect LobbyState LobbyReply
sim_prev_effect lobby session = changing lobby session (turning_place Previous (places_of lobby session))
