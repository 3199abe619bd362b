use Rattle.std.proofs.Common.{◌≡◌, ◌++◌, length, map}
use Rattle.lobby_state.specs.Stored.{lines_for, stored_line}
use Rattle.lobby_state.proofs.roster.Roster.lines_for.Given as goal

abbrev pub invariant-loop-row : goal.invariant-loop-row
invariant-loop-row l = l.lines ++ map stored_line l.games ≡ lines_for l.self.shelf.games l.fn.key

abbrev pub decreases-loop-row : goal.decreases-loop-row
decreases-loop-row l = length l.games
