use Rattle.std.proofs.Common.{refl}
use Rattle.histories.specs.Core.{after}
use Rattle.test_base.proofs.counters.example_is_legal.Goals as goal

pub returns-clause-legal : goal.returns-clause-legal
unfolding after
returns-clause-legal c = (tt, refl, (tt, refl, (tt, refl, (tt, refl, tt))))

pub returns-clause-leaves : goal.returns-clause-leaves
unfolding after
returns-clause-leaves c = refl
