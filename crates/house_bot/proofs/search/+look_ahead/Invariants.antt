use Rattle.std.proofs.Common.{◌≡◌, ◌+◌, ◌*◌, ◌<ℤ◌, ◌≤ℤ◌, take}
use Rattle.house_bot.specs.Value.{move_value}
use Rattle.house_bot.specs.Searching.{is_tried, raised_by}
use Rattle.house_bot.proofs.search.+look_ahead.Given as goal

abbrev pub decreases-search : goal.decreases-search
decreases-search l = 4 * l.depth

abbrev pub decreases-deeper : goal.decreases-deeper
decreases-deeper l = 4 * l.depth + 1

abbrev pub decreases-raised : goal.decreases-raised
decreases-raised l = 4 * l.depth + 2

abbrev pub decreases-raised_by : goal.decreases-raised_by
decreases-raised_by l = 4 * l.depth + 3

abbrev pub invariant-raised_by-loop-m : goal.invariant-raised_by-loop-m
invariant-raised_by-loop-m l = record {
  same : l.p ≡ l.fn.p;
  best : l.best ≡ raised_by (move_value l.depth l.fn.p) (is_tried l.takes l.fn.p.men) l.low (take l.m-index l.moves);
  least : l.low ≤ℤ l.best;
  below : l.best <ℤ l.high;
}
