use Rattle.link_core.proofs.Stepping.{stopped_reader}
use Rattle.link_core.proofs.converse.take_piece.Goals as goal

pub returns-then-is_err-clause-steps : goal.returns-then-is_err-clause-steps
returns-then-is_err-clause-steps g c = λ start turns p. stopped_reader p
