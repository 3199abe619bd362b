use Rattle.std.proofs.Common.{◌≡◌, map, take}
use Rattle.lobby_state.specs.Sought.{sought_line}
use Rattle.lobby_state.proofs.roster.Roster.sought_lines.Given as goal

abbrev pub invariant-loop-seek : goal.invariant-loop-seek
invariant-loop-seek l = l.lines ≡ map (sought_line l.self) (take l.seek-index l.seek-items)
