use Rattle.std.proofs.Common.{refl}
use Rattle.pgn_book.proofs.laws.worked_exports.Goals as goal

pub returns : goal.returns
returns c = record { no_move = refl; stays = refl; breaks = refl; strokes = refl }
