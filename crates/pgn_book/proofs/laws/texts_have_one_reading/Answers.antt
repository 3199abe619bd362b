use Rattle.pgn_book.proofs.GamesTold.{one_reading}
use Rattle.pgn_book.proofs.laws.texts_have_one_reading.Goals as goal

pub returns : goal.returns
returns c = one_reading
