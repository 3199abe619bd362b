use Rattle.desk_laws.proofs.Accepting.{accepts_legal_moves}
use Rattle.desk_laws.proofs.laws.desks_accept_exactly_legal_moves.Goals as goal

pub returns : goal.returns
returns c = accepts_legal_moves
