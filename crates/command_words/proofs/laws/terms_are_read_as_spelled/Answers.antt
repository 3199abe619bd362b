use Rattle.command_words.proofs.TermParts.{are_read_as_spelled}
use Rattle.command_words.proofs.laws.terms_are_read_as_spelled.Goals as goal

pub returns : goal.returns
returns c = are_read_as_spelled
