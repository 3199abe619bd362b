use Rattle.histories.proofs.Histories.{holds_in_every_state}
use Rattle.histories.proofs.laws.every_state.Goals as goal

pub returns : goal.returns
returns g c = holds_in_every_state g.S.Served.core g.S.Served.lawful g.K.KeptFact.holds g.met.K.KeptFact.kept
