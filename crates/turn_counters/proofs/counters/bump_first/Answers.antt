use Rattle.turn_counters.proofs.Working.{first_named, first_made}
use Rattle.turn_counters.proofs.counters.bump_first.Goals as goal

pub give-requires-clause-named : goal.give-requires-clause-named
give-requires-clause-named g c κs =
    first_named c.args.pass.now.view c.take-value.result c.begin.ensures.begun c.take-value.ensures.taken
    c.commit.ensures.done

pub returns-clause-made : goal.returns-clause-made
returns-clause-made g c =
    first_made c.args.pass.now.view c.take-value.result c.begin.ensures.begun c.take-value.ensures.taken
    c.commit.ensures.done c.give.ensures.given c.requires.idle
