use Rattle.std.proofs.Common.{◌<◌, length, subst}
use Rattle.login_handles.specs.Guests.{IsLeastFree}
use Rattle.lobby_state.specs.Enter.{guest_in, names_taken}
use Rattle.lobby_state.specs.Lobby.{LobbyState}
use Rattle.lobby_state.proofs.KeepsEnter.{guest_is_least}
use Rattle.lobby_state.proofs.laws.guests_have_the_least_name.Goals as goal

pub returns : goal.returns
returns c =
    subst (λ (l : LobbyState). length l.members < 256 → IsLeastFree (names_taken l) (guest_in l)) c.lobby.view_is
    (guest_is_least c.lobby.inside.roster c.lobby.invariant)
