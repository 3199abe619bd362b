use Rattle.tourney_desk.proofs.Rounds.{rounds_of-even, rounds_of-odd}
use Rattle.tourney_desk.proofs.pairing.rounds_of.Goals as goal

pub returns-then-players-eq1-clause-value : goal.returns-then-players-eq1-clause-value
returns-then-players-eq1-clause-value c = rounds_of-odd c.args.players c.if-players-eq1.true

pub returns-clause-value : goal.returns-clause-value
returns-clause-value c = rounds_of-even c.args.players c.if-players-eq1.false
