use Rattle.command_words.proofs.CommandOfLine.{read_after_is}
use Rattle.command_words.proofs.reading.read_command.Goals as goal

pub returns : goal.returns
returns c =
    read_after_is c.args.aliases.now c.args.line.now c.bytes.result.now c.trimmed-text.result.now
    c.first_word.result.now _ c.read_after.result c.bytes.ensures.bytes c.trimmed-text.ensures c.first_word.ensures
    c.get.ensures
    c.read_after.ensures
