use Rattle.std.proofs.Common.{◌≡◌}
use Rattle.lobby_state.specs.InUse.{rows_to}
use Rattle.lobby_state.proofs.roster.Roster.desks_in_use.Given as goal

abbrev pub invariant-loop-slot : goal.invariant-loop-slot
invariant-loop-slot l = l.rows ≡ rows_to l.self l.slot
