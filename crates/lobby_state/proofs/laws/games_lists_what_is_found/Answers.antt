use Rattle.std.proofs.Common.{subst}
use Rattle.lobby_state.specs.Games.{games_lines}
use Rattle.lobby_state.specs.GamesFound.{ListWhatIsFound}
use Rattle.lobby_state.specs.Lobby.{LobbyState}
use Rattle.lobby_state.proofs.GamesFound.{lists_found}
use Rattle.lobby_state.proofs.laws.games_lists_what_is_found.Goals as goal

pub returns : goal.returns
returns c =
    subst (λ (l : LobbyState). ListWhatIsFound l (games_lines l)) c.lobby.view_is
    (lists_found c.lobby.inside.roster c.lobby.invariant)
