use Rattle.std.proofs.Common.{◌≡◌, map, take}
use Rattle.pgn_book.proofs.stored.moves_of.Given as goal

abbrev pub invariant-loop-half : goal.invariant-loop-half
invariant-loop-half l = l.moves ≡ map (λ h. h.what) (take l.half-index l.halves)
