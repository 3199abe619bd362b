-- The lobby at its opening may open a server.
use Rattle.std.proofs.Common.{◌≡◌, refl, sym, subst}
use Rattle.lobby_state.specs.Lobby.{LobbyState, opening}
use Rattle.one_server.specs.Whole.{IsOpening}

pub IsOpening-empty : IsOpening opening
IsOpening-empty = record { nobody = refl; no_game = refl }

pub opening_is : (lobby : LobbyState) → lobby ≡ opening → IsOpening lobby
opening_is lobby e = subst IsOpening (sym e) IsOpening-empty
