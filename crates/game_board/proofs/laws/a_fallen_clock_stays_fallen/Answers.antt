use Rattle.game_board.proofs.Fallen.{same_acked, stays_fallen}
use Rattle.game_board.proofs.laws.a_fallen_clock_stays_fallen.Goals as goal

pub returns-clause-later : goal.returns-clause-later
returns-clause-later c b colour = stays_fallen b colour

pub returns-clause-acked : goal.returns-clause-acked
returns-clause-acked c b colour by stamp moment = same_acked b colour by stamp moment
