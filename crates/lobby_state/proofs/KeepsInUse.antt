-- What an InUse tells.
use Rattle.std.specs.Prelude.{All, Contains}
use Rattle.std.proofs.lemmas.List.Elements.{All-contains_itself, All-weaker}
use Rattle.lobby_state.specs.Desks.{IsDesk}
use Rattle.lobby_state.specs.InUse.{desks_in_use}
use Rattle.lobby_state.specs.Lobby.{LobbyState}
use Rattle.lobby_state.proofs.RowsInUse.{are_desks_in_use}

pub desks_are : (lobby : LobbyState) → All (λ row. IsDesk row.desk) (desks_in_use lobby)
desks_are lobby =
    let are = are_desks_in_use lobby in
    All-weaker (Contains (desks_in_use lobby)) (λ row. IsDesk row.desk)
    (λ row there. ((are.listed row).0 there).is_desk) (desks_in_use lobby)
    (All-contains_itself (desks_in_use lobby))
