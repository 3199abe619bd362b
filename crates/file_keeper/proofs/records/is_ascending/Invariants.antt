use Rattle.file_keeper.proofs.Rising.{IsRisen}
use Rattle.file_keeper.proofs.records.is_ascending.Given as goal

abbrev pub invariant-loop-i : goal.invariant-loop-i
invariant-loop-i l = IsRisen l.pairs l.i
