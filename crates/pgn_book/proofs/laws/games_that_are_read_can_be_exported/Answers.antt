use Rattle.pgn_book.proofs.SoundStates.{reads_exportable}
use Rattle.pgn_book.proofs.laws.games_that_are_read_can_be_exported.Goals as goal

pub returns : goal.returns
returns c = reads_exportable
