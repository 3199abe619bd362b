use Rattle.std.proofs.Common.{sym}
use Rattle.lobby_state.proofs.NamedApart.{gone_unnamed, named_here, none_named}
use Rattle.lobby_state.proofs.members.Members.named.Goals as goal

pub returns-in_default : goal.returns-in_default
returns-in_default c = sym (none_named c.args.key c.args.self.now (sym c.in_default.ensures.member))

pub returns-then-member : goal.returns-then-member
returns-then-member c =
    sym (gone_unnamed c.args.key c.args.self.now c.in-Some.member.now c.in-Some.ensures.apart
    (sym c.in-Some.ensures.member) c.if-member.true)

pub returns : goal.returns
returns c =
    sym (named_here c.args.key c.args.self.now c.in-Some.member.now (sym c.in-Some.ensures.member) c.if-member.false)
