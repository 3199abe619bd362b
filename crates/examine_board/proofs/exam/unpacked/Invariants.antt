use Rattle.std.proofs.Common.{◌≡◌, take}
use Rattle.examine_board.proofs.exam.unpacked.Given as goal

abbrev pub invariant-loop-half : goal.invariant-loop-half
invariant-loop-half l = l.list ≡ take l.half-index l.halves
