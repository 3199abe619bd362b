use Rattle.std.proofs.Common.{ap, arith}
use Rattle.channel_feed.specs.declared.channels.Membership.{Membership}
use Rattle.channel_feed.specs.Channels.{channels_of}
use Rattle.channel_feed.proofs.Counting.{channels_of-left, fewer_here, there_by_row}
use Rattle.channel_feed.proofs.channels.Channels.leave.Goals as goal

pub count_down-requires : goal.count_down-requires
count_down-requires c =
    let gone : Membership = record { who = c.args.who; channel = c.args.channel } in
    let there =
    there_by_row c.args.who c.args.channel c.self.inside.rows c.args.self.now c.has.result c.self.view_is c.has.ensures
    c.if-not-has.false in
    omega (arith, c.self.invariant c.args.who, fewer_here gone c.self.inside.rows c.as_slice-rows.ensures.apart there)

pub invariant_of-self : goal.invariant_of-self
invariant_of-self c other =
    let gone : Membership = record { who = c.args.who; channel = c.args.channel } in
    let there =
    there_by_row c.args.who c.args.channel c.self.inside.rows c.args.self.now c.has.result c.self.view_is c.has.ensures
    c.if-not-has.false in
    let fewer = channels_of-left gone c.self.inside.rows c.as_slice-rows.ensures.apart there other in
    omega (
      arith,
      c.self.invariant other,
      c.count_down.ensures other,
      fewer,
      ap (λ rows. channels_of rows other) c.remove.ensures.rest,
    )
