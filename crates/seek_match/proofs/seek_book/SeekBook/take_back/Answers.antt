use Rattle.std.proofs.Common.{not, sym, subst, ◌∙◌}
use Rattle.std.specs.Prelude.{◌==◌}
use Rattle.seek_match.specs.Seeks.{AreSeeks}
use Rattle.seek_match.proofs.Rising.{RiseAbove-filter}
use Rattle.seek_match.proofs.seek_book.SeekBook.take_back.Goals as goal

pub invariant_of-self : goal.invariant_of-self
invariant_of-self c =
    subst AreSeeks (sym (c.shrink.ensures ∙ c.remove.ensures.rest))
    (RiseAbove-filter (λ seek. not (c.args.number == seek.number)) 0 c.self.inside.rows c.self.invariant)
