use Rattle.std.proofs.Common.{[], None, refl, ap, ◌∙◌}
use Rattle.lobby_state.specs.Lobby.{LobbyState}
use Rattle.one_server.specs.Server.{ServerState}
use Rattle.one_server.specs.Whole.{opened_server}
use Rattle.cmd_replay.specs.Evening.{EveningState}
use Rattle.cmd_replay.proofs.EveningAnswers.{reached_none}
use Rattle.cmd_replay.proofs.evening.Evening.new.Goals as goal

pub returns : goal.returns
returns c =
    let evening : EveningState =
    record { server = c.in_ok-new-2.field-0; order = None; moment = 0; memories = c.in_ok-new_sessions.field-0 } in
    let opens : (lobby : LobbyState) → ServerState = λ lobby. record { opening = opened_server lobby; log = [] } in
    reached_none evening (c.in_ok-new-2.ensures ∙ ap opens c.in_ok-new.ensures) refl refl c.in_ok-new_sessions.ensures
