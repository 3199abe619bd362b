use Rattle.std.proofs.Common.{ap, ◌∙◌}
use Rattle.chess_model.specs.declared.variant.Terms.{Terms}
use Rattle.desk_boards.proofs.Linking.{learn_allowed, learn_captured, learn_room, linked-learnt}
use Rattle.desk_boards.proofs.linked.play_linked.Goals as goal

pub learn-requires-clause-allowed : goal.learn-requires-clause-allowed
learn-requires-clause-allowed c =
    learn_allowed c.args.own.now c.args.other.now c.in_ok-what.what c.requires.linked c.in_ok-what.ensures.allowed

pub learn-requires-clause-captured : goal.learn-requires-clause-captured
learn-requires-clause-captured c =
    c.make-captured.ensures.captured
    ∙ learn_captured c.args.own.now c.args.other.now c.in_ok-what.what c.requires.linked

pub learn-requires-clause-room : goal.learn-requires-clause-room
learn-requires-clause-room c = learn_room c.args.own.now c.args.other.now c.requires.linked c.in_ok-what.ensures.short

pub learn-requires-clause-variant : goal.learn-requires-clause-variant
learn-requires-clause-variant c = ap (λ (t : Terms). t.variant) c.requires.linked.terms ∙ c.requires.linked.pair

pub returns-clause-linked : goal.returns-clause-linked
returns-clause-linked c =
    linked-learnt c.args.own.now c.args.other.now _ _ c.in_ok-what.what c.args.moment c.args.stamp c.requires.linked
    c.make-captured.ensures.after c.learn.ensures
