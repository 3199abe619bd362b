use Rattle.std.proofs.Common.{Result, sym, subst}
use Rattle.std.specs.Prelude.{IfOk}
use Rattle.fics_words.specs.declared.refusal.Refusal.{Refusal}
use Rattle.lobby_state.specs.declared.acts.Plan.{Plan}
use Rattle.lobby_state.specs.Lobby.{LobbyState}
use Rattle.lobby_state.specs.Planned.{IsPlanned}
use Rattle.lobby_state.proofs.KeepsPlans.{IfOk-plan_of}
use Rattle.lobby_state.proofs.lobby.Lobby.plan.Goals as goal

pub returns-clause-planned : goal.returns-clause-planned
returns-clause-planned c =
    let lobby = c.self.inside.roster in
    let here = subst (λ (r : Result Plan Refusal). IfOk r (IsPlanned lobby)) (sym c.plan.ensures)
    (IfOk-plan_of lobby c.args.session c.args.act.now c.names_desk.ensures c.self.invariant) in
    subst (λ (l : LobbyState). IfOk c.plan.result (IsPlanned l)) c.self.view_is here
