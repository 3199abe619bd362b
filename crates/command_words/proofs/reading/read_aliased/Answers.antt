use Rattle.command_words.proofs.CommandOfLine.{made_is}
use Rattle.command_words.proofs.reading.read_aliased.Goals as goal

pub returns : goal.returns
returns c =
    made_is c.args.alias.now.text c.args.text.now c.bytes.result.now c.rest_of.result.now c.in_ok-made.made.items
    c.as_slice.result.now c.read_made.result
    c.bytes.ensures.bytes c.rest_of.ensures c.in_ok-made.ensures c.as_slice.ensures.value c.read_made.ensures
