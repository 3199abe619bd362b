use Rattle.std.proofs.Common.{sym, subst}
use Rattle.lobby_state.specs.WellFormed.{IsWellFormed}
use Rattle.lobby_state.proofs.WellFormed.{IsWellFormed-opening}
use Rattle.lobby_state.proofs.lobby.Lobby.new.Goals as goal

pub invariant_of-result : goal.invariant_of-result
invariant_of-result c = subst IsWellFormed (sym c.in_ok-new.ensures) IsWellFormed-opening
