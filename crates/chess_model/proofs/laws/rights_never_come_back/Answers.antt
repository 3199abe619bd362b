use Rattle.chess_model.proofs.ChessLaws.{rights_before}
use Rattle.chess_model.proofs.laws.rights_never_come_back.Goals as goal

pub returns : goal.returns
returns c = rights_before
