use Rattle.test_base.proofs.Counting.{one_more}
use Rattle.test_base.proofs.counters.Pair.run.Goals as goal

pub invariant_of-self-2 : goal.invariant_of-self-2
invariant_of-self-2 c =
    let n =
    one_more c.self.inside.log.items _ _ _ _ _ c.args.session c.args.act c.self.invariant.0 c.self.invariant.1
    (c.step-reply.ensures.answers c.args.session) (c.step-reply.ensures.leaves c.args.session) in
    rw (c.push_reserved.ensures.items, c.in_ok-reserve.ensures.items) n

pub returns-clause-legal : goal.returns-clause-legal
returns-clause-legal c =
    let n =
    one_more c.self.inside.log.items _ _ _ _ _ c.args.session c.args.act c.self.invariant.0 c.self.invariant.1
    (c.step-reply.ensures.answers c.args.session) (c.step-reply.ensures.leaves c.args.session) in
    rw (c.push_reserved.ensures.items, c.in_ok-reserve.ensures.items) n.0
