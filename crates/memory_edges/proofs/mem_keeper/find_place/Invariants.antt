use Rattle.memory_edges.proofs.Places.{IsPassed}
use Rattle.memory_edges.proofs.mem_keeper.find_place.Given as goal

abbrev pub invariant-loop-i : goal.invariant-loop-i
invariant-loop-i l = IsPassed l.pairs l.key l.i
