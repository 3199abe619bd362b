use Rattle.std.proofs.Common.{◌+◌, ◌-◌, cond, sym, ap, ◌∙◌, arith}
use Rattle.std.specs.Prelude.{◌==◌}
use Rattle.channel_feed.specs.Counts.{count_of}
use Rattle.channel_feed.proofs.Counting.{count_of-down, count_of-last}
use Rattle.channel_feed.proofs.counts.count_down.Goals as goal

pub returns-then-count-eq1 : goal.returns-then-count-eq1
returns-then-count-eq1 c other =
    count_of-last c.args.counts.now c.args.who (sym c.count_of-count.ensures ∙ c.if-count-eq1.true) other
    ∙ ap (λ counts. count_of counts other + cond (c.args.who == other) 1 0) (sym c.remove.ensures.rest)

pub returns-else-count-eq1 : goal.returns-else-count-eq1
returns-else-count-eq1 c other =
    count_of-down c.args.counts.now c.args.who (c.count_of-count.result - 1)
    (omega (arith, c.count_of-count.ensures, c.requires, c.if-count-eq1.false)) other
    ∙ ap (λ counts. count_of counts other + cond (c.args.who == other) 1 0) (sym c.change.ensures)
