use Rattle.turn_table.proofs.Ends.{zero_words}
use Rattle.turn_table.proofs.edges.zeros.Goals as goal

pub returns : goal.returns
returns c = zero_words 256
