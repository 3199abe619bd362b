use Rattle.chess_model.proofs.HomeFiles.{long_rook_table, long_rook_table-within}
use Rattle.chess_model.proofs.homes.numbered_long_rook.Goals as goal

pub returns-clause-value : goal.returns-clause-value
returns-clause-value c = long_rook_table c.args.number c.requires

pub returns-clause-within : goal.returns-clause-within
returns-clause-within c = long_rook_table-within c.args.number c.requires
