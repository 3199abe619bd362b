use Rattle.chess_model.proofs.HomeFiles.{king_table, king_table-within}
use Rattle.chess_model.proofs.homes.numbered_king.Goals as goal

pub returns-clause-value : goal.returns-clause-value
returns-clause-value c = king_table c.args.number c.requires

pub returns-clause-within : goal.returns-clause-within
returns-clause-within c = king_table-within c.args.number c.requires
