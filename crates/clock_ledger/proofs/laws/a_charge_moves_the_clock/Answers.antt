use Rattle.clock_ledger.proofs.Remaining.{remaining-charged}
use Rattle.clock_ledger.proofs.laws.a_charge_moves_the_clock.Goals as goal

pub returns-clause-moved : goal.returns-clause-moved
returns-clause-moved c = remaining-charged c.args.clock.now c.args.charge.now c.requires
