use Rattle.std.proofs.Common.{sym, subst}
use Rattle.lobby_state.specs.Lobby.{LobbyState}
use Rattle.lobby_state.specs.Planned.{IsPlanned}
use Rattle.lobby_state.specs.Reserve.{IsReady, shelved_in}
use Rattle.lobby_state.specs.WellFormed.{IsWellFormed}
use Rattle.lobby_state.proofs.KeepsPlans.{IsWellFormed-committed}
use Rattle.lobby_state.proofs.lobby.Lobby.commit.Goals as goal

pub invariant_of-self : goal.invariant_of-self
invariant_of-self c =
    let lobby = c.self.inside.roster in
    let can = subst (λ (l : LobbyState). IsPlanned l c.args.plan.now) (sym c.self.view_is) c.requires.planned in
    let ready =
    subst (λ (l : LobbyState). IsReady l c.args.plan.now c.args.ready) (sym c.self.view_is) c.requires.ready in
    subst IsWellFormed (sym c.commit.ensures)
    (IsWellFormed-committed lobby c.args.plan.now (shelved_in c.args.ready) c.args.cleared can ready.shelving
    c.self.invariant)
