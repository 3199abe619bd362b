use Rattle.std.proofs.Common.{sym, ◌∙◌}
use Rattle.seek_match.proofs.match_book.MatchBook.keep_of.Goals as goal

pub loop-smaller : goal.loop-smaller
loop-smaller g c = c.take_failing.ensures.fewer c.loop-test.true

pub loop-preserved : goal.loop-preserved
loop-preserved g c = c.take_failing.ensures.passing ∙ c.loop.invariant

pub returns : goal.returns
returns g c =
    sym (c.take_failing.ensures.none c.loop-test.false) ∙ c.take_failing.ensures.passing ∙ c.loop.invariant
