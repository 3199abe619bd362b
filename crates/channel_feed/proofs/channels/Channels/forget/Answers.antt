use Rattle.std.proofs.Common.{◌≡◌, sym, ap, ◌∙◌}
use Rattle.channel_feed.specs.Channels.{channels_of, without_player}
use Rattle.channel_feed.specs.Counts.{count_of}
use Rattle.channel_feed.proofs.Counting.{count_of-gone, uncounted, without_player-absent}
use Rattle.channel_feed.proofs.channels.Channels.forget.Goals.{Then-is_none}
use Rattle.channel_feed.proofs.channels.Channels.forget.Goals as goal

-- a player without a row is in no channel
in_none : (c : Then-is_none) → channels_of c.self.inside.rows c.args.who ≡ 0
in_none c =
    sym (c.self.invariant c.args.who)
    ∙ uncounted c.self.inside.counts c.args.who c.remove.result c.remove.ensures.removed c.if-is_none.ensures

pub invariant_of-self : goal.invariant_of-self
invariant_of-self c other =
    ap (λ counts. count_of counts other) c.remove.ensures.rest
    ∙ count_of-gone c.self.inside.counts c.self.inside.rows c.args.who c.self.invariant other
    ∙ ap (λ rows. channels_of rows other) (without_player-absent c.self.inside.rows c.args.who (in_none c))

pub returns-then-is_none : goal.returns-then-is_none
returns-then-is_none c =
    sym (without_player-absent c.self.inside.rows c.args.who (in_none c))
    ∙ ap (without_player c.args.who) c.self.view_is

pub invariant_of-self-2 : goal.invariant_of-self-2
invariant_of-self-2 c other =
    ap (λ counts. count_of counts other) c.remove.ensures.rest
    ∙ count_of-gone c.self.inside.counts c.self.inside.rows c.args.who c.self.invariant other
    ∙ ap (λ rows. channels_of rows other) (sym c.retain.ensures)
