use Rattle.std.proofs.Common.{arith}
use Rattle.command_words.proofs.Decimals.{read_is, unread_is}
use Rattle.command_words.proofs.numbers.channel_of.Goals as goal

pub returns-in-Some : goal.returns-in-Some
returns-in-Some c = read_is 255 c.args.word.now c.in-Some.number (omega arith) c.in-Some.ensures.value

pub returns-in-None : goal.returns-in-None
returns-in-None c = unread_is 255 c.args.word.now (omega arith) c.in-None.ensures.none
