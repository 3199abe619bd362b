use Rattle.linked_desk.proofs.WholeSets.{whole_at, printed_at}
use Rattle.linked_desk.proofs.laws.men_stay_whole.Goals as goal

pub returns : goal.returns
returns c = record { sets = whole_at; hands = printed_at }
