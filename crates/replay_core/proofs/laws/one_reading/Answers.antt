use Rattle.replay_core.proofs.Events.{one_line}
use Rattle.replay_core.proofs.Seats.{one_seat_line, seat_apart}
use Rattle.replay_core.proofs.laws.one_reading.Goals as goal

pub returns-clause-sessions : goal.returns-clause-sessions
returns-clause-sessions c = one_line

pub returns-clause-seats : goal.returns-clause-seats
returns-clause-seats c = one_seat_line

pub returns-clause-apart : goal.returns-clause-apart
returns-clause-apart c = seat_apart
