use Rattle.histories.proofs.Histories.{holds_of_each_part}
use Rattle.histories.proofs.laws.every_part.Goals as goal

pub returns : goal.returns
returns g c =
    holds_of_each_part g.S.Served.core g.K.KeptOfParts.holds g.met.K.KeptOfParts.first g.met.K.KeptOfParts.second
