use Rattle.std.proofs.Common.{◌≡◌, length, not, sym, ap, subst, arith}
use Rattle.std.proofs.lemmas.List.Sums.{count_by-le-length}
use Rattle.collections.proofs.Rising.{length-rising}
use Rattle.seek_match.specs.Seeks.{AreSeeks, is_by, number_of}
use Rattle.seek_match.proofs.Rising.{RiseAbove-filter}
use Rattle.seek_match.proofs.seek_book.SeekBook.remove.Goals as goal

pub overflow_cast-result : goal.overflow_cast-result
overflow_cast-result c =
    let few = count_by-le-length (is_by c.args.by c.args.number) c.as_slice.result.now in
    let all = length-rising number_of 65536 c.self.inside.rows 0 (omega arith) c.self.invariant in
    let same : length c.as_slice.result.now ≡ length c.self.inside.rows = ap length c.as_slice.ensures.rows in
    omega (arith, few, all, same, c.count_by-count.ensures)

pub invariant_of-self : goal.invariant_of-self
invariant_of-self c =
    subst AreSeeks (sym c.keep_seeks.ensures)
    (RiseAbove-filter (λ seek. not (is_by c.args.by c.args.number seek)) 0 c.self.inside.rows c.self.invariant)
