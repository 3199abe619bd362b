use Rattle.std.proofs.Common.{◌≡◌, ◌+◌, drop}
use Rattle.seek_match.specs.Seeks.{first_gap}
use Rattle.seek_match.proofs.seek_book.next_number.Given as goal

abbrev pub invariant-loop-seek : goal.invariant-loop-seek
invariant-loop-seek l = record {
  place : l.number ≡ l.seek-index + 1;
  gap : first_gap l.number (drop l.seek-index l.seeks) ≡ first_gap 1 l.seeks;
}
