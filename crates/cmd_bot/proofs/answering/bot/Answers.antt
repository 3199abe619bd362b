use Rattle.std.proofs.Common.{◌≡◌, arith}
use Rattle.cmd_bot.proofs.answering.bot.Goals as goal

pub returns-in-0-clause-ends : goal.returns-in-0-clause-ends
returns-in-0-clause-ends g c = rw c.in-0.is c.bot_at.ensures.ends

pub returns-in-1-clause-ends : goal.returns-in-1-clause-ends
returns-in-1-clause-ends g c = rw c.in-1.is c.bot_at-in-1.ensures.ends

pub returns-in-2-clause-ends : goal.returns-in-2-clause-ends
returns-in-2-clause-ends g c = rw c.in-2.is c.bot_at-in-2.ensures.ends

pub returns-in-3-clause-ends : goal.returns-in-3-clause-ends
returns-in-3-clause-ends g c = rw c.in-3.is c.bot_at-in-3.ensures.ends

pub returns-in_default-clause-ends : goal.returns-in_default-clause-ends
returns-in_default-clause-ends g c =
    let four : c.args.depth ≡ 4 = omega (arith, c.requires, c.in_default) in
    rw four c.bot_at-in_default.ensures.ends
