use Rattle.std.proofs.Common.{◌≡◌, take}
use Rattle.std.specs.List.{filter}
use Rattle.offer_book.proofs.rows.Rows.retain.Given as goal

abbrev pub invariant-loop-row : goal.invariant-loop-row
invariant-loop-row g l = l.kept ≡ filter (g.P.Predicate.passes l.test) (take l.row-index l.rows)
