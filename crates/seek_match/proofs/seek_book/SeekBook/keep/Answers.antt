use Rattle.std.proofs.Common.{sym, subst}
use Rattle.seek_match.specs.Seeks.{AreSeeks}
use Rattle.seek_match.proofs.Rising.{RiseAbove-filter}
use Rattle.seek_match.proofs.seek_book.SeekBook.keep.Goals as goal

pub invariant_of-self : goal.invariant_of-self
invariant_of-self g c =
    subst AreSeeks (sym c.keep_seeks.ensures)
    (RiseAbove-filter (g.P.Predicate.passes c.args.test.now) 0 c.self.inside.rows c.self.invariant)
