use Rattle.serve_core.proofs.GoodEnds.{leaves_no_game, stores_all}
use Rattle.serve_core.proofs.laws.no_game_is_lost.Goals as goal

pub returns-clause-desks : goal.returns-clause-desks
returns-clause-desks c = leaves_no_game

pub returns-clause-store : goal.returns-clause-store
returns-clause-store c = stores_all
