use Rattle.std.proofs.Common.{◌^◌, ◌<◌, arith}
use Rattle.command_words.proofs.Decimals.{read_is, unread_is}
use Rattle.command_words.proofs.numbers.number_of.Goals as goal

pub returns-in-Some : goal.returns-in-Some
returns-in-Some c =
    let small : c.args.most < 2 ^ 64 = omega (arith, c.ranges.most.fits) in
    read_is c.args.most c.args.word.now c.in-Some.number small c.in-Some.ensures.value

pub returns-in-None : goal.returns-in-None
returns-in-None c =
    let small : c.args.most < 2 ^ 64 = omega (arith, c.ranges.most.fits) in
    unread_is c.args.most c.args.word.now small c.in-None.ensures.none
