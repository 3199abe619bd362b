use Rattle.pgn_book.proofs.Laying.{HaveLaid}
use Rattle.pgn_book.proofs.export_form.put_moves.Given as goal

-- the moves so far were put, and the position is the one after them
abbrev pub invariant-loop-place : goal.invariant-loop-place
invariant-loop-place l = HaveLaid l.fn.page l.page l.position l.moves l.place
