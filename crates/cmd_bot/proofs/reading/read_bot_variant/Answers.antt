use Rattle.chess_model.specs.declared.variant.Variant.TheVariants.{Chess, Crazyhouse, Fischer}
use Rattle.cmd_bot.proofs.Variants.{named_array, unnamed_bughouse, unnamed_word}
use Rattle.cmd_bot.proofs.reading.read_bot_variant.Goals as goal

pub returns-in-Some-Bughouse-clause-named : goal.returns-in-Some-Bughouse-clause-named
returns-in-Some-Bughouse-clause-named c =
    unnamed_bughouse c.args.depth c.args.line.now (rw c.in-Some-Bughouse.field-0-is at c.in-Some-Bughouse.ensures.named)

pub returns-in-Some-Fischer-clause-named : goal.returns-in-Some-Fischer-clause-named
returns-in-Some-Fischer-clause-named c =
    named_array c.args.depth c.args.line.now c.in-Some-Fischer.number
    (rw c.in-Some-Fischer.field-0-is at c.in-Some-Fischer.ensures.numbered)
    (rw c.in-Some-Fischer.field-0-is at c.in-Some-Fischer.ensures.named)

pub returns-in-None-clause-named : goal.returns-in-None-clause-named
returns-in-None-clause-named c =
    let none = c.in-None.ensures.none in
    unnamed_word c.args.depth c.args.line.now (none Chess) (none Crazyhouse) (λ n. none (Fischer n))
