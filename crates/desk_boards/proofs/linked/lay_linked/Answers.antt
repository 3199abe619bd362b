use Rattle.std.proofs.Common.{ap, ◌∙◌}
use Rattle.chess_model.specs.declared.variant.Terms.{Terms}
use Rattle.desk_boards.proofs.Linking.{learn_allowed, learn_captured, learn_room, linked-put}
use Rattle.desk_boards.proofs.linked.lay_linked.Goals as goal

pub learn-requires-clause-variant : goal.learn-requires-clause-variant
learn-requires-clause-variant c = ap (λ (t : Terms). t.variant) c.requires.linked.terms ∙ c.requires.linked.pair

pub learn-requires-clause-allowed : goal.learn-requires-clause-allowed
learn-requires-clause-allowed c =
    learn_allowed c.args.own.now c.args.other.now c.args.half.now.what c.requires.linked c.requires.allowed

pub learn-requires-clause-captured : goal.learn-requires-clause-captured
learn-requires-clause-captured c =
    c.lay-captured.ensures.captured
    ∙ learn_captured c.args.own.now c.args.other.now c.args.half.now.what c.requires.linked

pub learn-requires-clause-room : goal.learn-requires-clause-room
learn-requires-clause-room c = learn_room c.args.own.now c.args.other.now c.requires.linked c.requires.short

pub returns-clause-linked : goal.returns-clause-linked
returns-clause-linked c =
    linked-put c.args.own.now c.args.other.now _ _ c.args.half.now c.requires.linked c.lay-captured.ensures.after
    c.learn.ensures
