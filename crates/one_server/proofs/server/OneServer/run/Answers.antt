use Rattle.std.proofs.Common.{List, ◌∷◌}
use Rattle.one_server.specs.declared.act.Timed.{Timed}
use Rattle.one_server.specs.declared.part.Part.{Part}
use Rattle.one_server.specs.Whole.{opened_server}
use Rattle.one_server.proofs.Copying.{are_of}
use Rattle.one_server.proofs.Stepping.{count_of_desks}
use Rattle.one_server.proofs.Serving.{whole_now, one_more, pushed}
use Rattle.one_server.proofs.Replies.{last_reply}
use Rattle.one_server.proofs.server.OneServer.run.Goals as goal

pub first_of-one-requires-clause-count : goal.first_of-one-requires-clause-count
first_of-one-requires-clause-count c =
    count_of_desks c.self.inside.lobby c.self.inside.desks (whole_now _ _ _ c.self.invariant)

pub step-requires-clause-whole : goal.step-requires-clause-whole
step-requires-clause-whole c = whole_now _ _ _ c.self.invariant

pub twin-twin-requires : goal.twin-twin-requires
twin-twin-requires c =
    let timed : Timed = record { moment = c.args.moment; act = c.args.act } in
    are_of c.in_ok-copies.copies c.args.session (c.self.inside.lobby ∷ c.self.inside.desks) c.first_of-one.result.now
    timed c.step.new.reply
    c.first_of-one.ensures c.in_ok-copies.ensures.lists c.in_ok-copies.ensures.items c.in_ok-step.ensures.reply

pub invariant_of-self-2 : goal.invariant_of-self-2
invariant_of-self-2 c =
    let timed : Timed = record { moment = c.args.moment; act = c.args.act } in
    let new : List Part = c.step.new.lobby ∷ c.step.new.desks in
    pushed (opened_server c.self.inside.opening.value) c.self.inside.log.items c.reserve.new.self.items
    c.push_reserved.new.self.items c.args.session timed c.twin-twin.result c.step.new.reply new
    c.push_reserved.ensures.items c.in_ok-reserve.ensures.items c.twin-twin.ensures
    (one_more (opened_server c.self.inside.opening.value) c.self.inside.log.items
    (c.self.inside.lobby ∷ c.self.inside.desks) new c.args.session timed c.step.new.reply
    c.self.invariant c.requires c.in_ok-step.ensures.reply c.in_ok-step.ensures.after)

pub returns-clause-legal : goal.returns-clause-legal
returns-clause-legal c = (invariant_of-self-2 c).legal

pub returns-clause-fits : goal.returns-clause-fits
returns-clause-fits c =
    let timed : Timed = record { moment = c.args.moment; act = c.args.act } in
    let served =
    one_more (opened_server c.self.inside.opening.value) c.self.inside.log.items
    (c.self.inside.lobby ∷ c.self.inside.desks) (c.step.new.lobby ∷ c.step.new.desks) c.args.session timed
    c.step.new.reply
    c.self.invariant c.requires c.in_ok-step.ensures.reply c.in_ok-step.ensures.after in
    last_reply (opened_server c.self.inside.opening.value) c.self.inside.log.items c.args.session timed
    c.step.new.reply
    served.whole served.legal
