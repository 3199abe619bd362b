use Rattle.std.proofs.Common.{◌≡◌, take}
use Rattle.lobby_state.specs.ShelfRoom.{numbers_of}
use Rattle.lobby_state.proofs.lobby.Lobby.numbers.Given as goal

-- the numbers of the games so far stand
abbrev pub invariant-loop-row : goal.invariant-loop-row
invariant-loop-row l = l.numbers.items ≡ numbers_of (take l.row-index l.row-items)
