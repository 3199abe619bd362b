use Rattle.lobby_state.proofs.KeepsRegistration.{IsWellFormed-loaded}
use Rattle.lobby_state.proofs.lobby.Lobby.add_account.Goals as goal

pub invariant_of-self : goal.invariant_of-self
invariant_of-self c =
    IsWellFormed-loaded c.self.inside.roster c.args.account c.add_account.new.self c.add_account.result c.self.invariant
    c.add_account.ensures
