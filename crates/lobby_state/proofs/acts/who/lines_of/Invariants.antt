use Rattle.std.proofs.Common.{◌≡◌, map, take}
use Rattle.lobby_state.proofs.RowsOfNames.{name_of}
use Rattle.lobby_state.proofs.acts.who.lines_of.Given as goal

abbrev pub invariant-loop-row : goal.invariant-loop-row
invariant-loop-row l = l.lines ≡ map name_of (take l.row-index l.names)
