use Rattle.std.proofs.Common.{◌≡◌, take}
use Rattle.examine_board.proofs.exam.copied.Given as goal

abbrev pub invariant-loop-item : goal.invariant-loop-item
invariant-loop-item g l = l.copies ≡ take l.item-index l.items
