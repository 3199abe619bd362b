use Rattle.std.proofs.Common.{refl, sym, ap, ◌∙◌}
use Rattle.channel_feed.specs.Counts.{count_of}
use Rattle.channel_feed.proofs.Counting.{count_of-pushed, count_of-up}
use Rattle.channel_feed.proofs.counts.count_up.Goals as goal

pub returns-in_default-clause-ok : goal.returns-in_default-clause-ok
returns-in_default-clause-ok c other =
    ap (λ counts. count_of counts other) c.in_ok-push.ensures.ok
    ∙ count_of-pushed c.args.counts.now c.args.who (sym c.in_default.ensures) other

pub returns-clause-ok : goal.returns-clause-ok
returns-clause-ok c other =
    ap (λ counts. count_of counts other) c.change.ensures
    ∙ count_of-up c.args.counts.now c.args.who _ c.in-Some.row.now (sym c.in-Some.ensures) refl other
