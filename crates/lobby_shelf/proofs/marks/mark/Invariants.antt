use Rattle.std.proofs.Common.{◌≡◌, drop}
use Rattle.lobby_shelf.specs.Marks.{mark, mark_from}
use Rattle.lobby_shelf.proofs.marks.mark.Given as goal

abbrev pub invariant-loop-letter : goal.invariant-loop-letter
invariant-loop-letter l = mark_from l.sum (drop l.letter-index l.fn.key) ≡ mark l.fn.key
