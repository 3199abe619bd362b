use Rattle.std.proofs.Common.{List, subst, ◌∙◌, sym, ap}
use Rattle.lobby_state.specs.declared.desk_in_use.DeskInUse.{DeskInUse}
use Rattle.lobby_state.specs.declared.acts.LobbyReply.{LobbyReply}
use Rattle.one_server.specs.declared.reply.Reply.TheVariants.{Lobby}
use Rattle.steward_core.specs.Clearing.{Cleared, rows_told}
use Rattle.steward_core.proofs.DesksCleared.{whole_clearing}
use Rattle.steward_core.proofs.clearing.clearing_turn.Goals as goal

pub returns-in-Ok-Lobby-Desks-clause-cleared : goal.returns-in-Ok-Lobby-Desks-clause-cleared
returns-in-Ok-Lobby-Desks-clause-cleared g c =
    let w = c.in-Ok-Lobby-Desks in
    whole_clearing c.args.moment c.clear_each.result w.field-0 (g.R.Runner.state c.args.runner.now)
    (g.R.Runner.state c.answered.new.r) (g.R.Runner.state c.clear_each.new.runner) w.ensures.ran
    (subst (λ (rows : List DeskInUse).
    Cleared c.args.moment c.clear_each.result rows (g.R.Runner.state c.answered.new.r)
    (g.R.Runner.state c.clear_each.new.runner))
    (c.as_slice.ensures
    ∙ (sym (ap (λ (r : LobbyReply). rows_told (Lobby r)) w.field-0-0-is) ∙ sym (ap rows_told w.field-0-is)))
    c.clear_each.ensures.cleared)
