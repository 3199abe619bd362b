use Rattle.std.proofs.Common.{Some, ap, sym, ◌∙◌}
use Rattle.one_server.proofs.Serving.{no_desk, whole_now}
use Rattle.one_server.proofs.server.OneServer.lobby.Goals as goal

pub unreachable-requires : goal.unreachable-requires
unreachable-requires c =
    let whole = whole_now _ _ _ c.self.invariant in
    no_desk whole.lobby c.in-Desk.field-0 (ap Some (sym c.in-Desk.is) ∙ whole.first)
