use Rattle.histories.proofs.Histories.{steps_once, grows_legally, begins_legally, stays_whole}
use Rattle.histories.proofs.laws.histories_grow.Goals as goal

pub returns-clause-one_more : goal.returns-clause-one_more
returns-clause-one_more g c = steps_once g.S.Served.core

pub returns-clause-grows : goal.returns-clause-grows
returns-clause-grows g c = grows_legally g.S.Served.core

pub returns-clause-begins : goal.returns-clause-begins
returns-clause-begins g c = begins_legally g.S.Served.core

pub returns-clause-whole : goal.returns-clause-whole
returns-clause-whole g c = stays_whole g.S.Served.core g.S.Served.lawful
