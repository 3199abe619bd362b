use Rattle.cmd_examine.proofs.OneGame.{has_one_game}
use Rattle.cmd_examine.proofs.laws.a_store_has_one_game_of_a_number.Goals as goal

pub returns : goal.returns
returns c = has_one_game
