use Rattle.pgn_book.proofs.Praise.{Cut}
use Rattle.pgn_book.proofs.bytes.without_praise.Given as goal

abbrev pub invariant-loop-end : goal.invariant-loop-end
invariant-loop-end l = Cut l.word l.end

abbrev pub decreases-loop-end : goal.decreases-loop-end
decreases-loop-end l = l.end
