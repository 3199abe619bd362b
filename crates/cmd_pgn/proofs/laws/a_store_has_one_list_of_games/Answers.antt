use Rattle.cmd_pgn.proofs.OneList.{has_one_list}
use Rattle.cmd_pgn.proofs.laws.a_store_has_one_list_of_games.Goals as goal

pub returns : goal.returns
returns c = has_one_list
