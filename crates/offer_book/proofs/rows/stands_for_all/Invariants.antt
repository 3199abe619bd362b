use Rattle.std.proofs.Common.{◌≡◌}
use Rattle.offer_book.specs.Offers.{stands_for_all}
use Rattle.offer_book.proofs.rows.stands_for_all.Given as goal

abbrev pub invariant-loop-seat : goal.invariant-loop-seat
invariant-loop-seat l = l.all ≡ stands_for_all l.seat l.rows l.offer
