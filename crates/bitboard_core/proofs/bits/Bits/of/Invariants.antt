use Rattle.bitboard_core.proofs.CopyLemmas.{IsCopiedBelow}
use Rattle.bitboard_core.proofs.bits.Bits.of.Given as goal

abbrev pub invariant-loop-s : goal.invariant-loop-s
invariant-loop-s l = IsCopiedBelow l.squares l.bits l.s
