use Rattle.std.proofs.Common.{◌≡◌}
use Rattle.lobby_state.specs.Games.{lines_to}
use Rattle.lobby_state.proofs.roster.Roster.games_lines.Given as goal

abbrev pub invariant-loop-slot : goal.invariant-loop-slot
invariant-loop-slot l = l.lines ≡ lines_to l.self l.slot
