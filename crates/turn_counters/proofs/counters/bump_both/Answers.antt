use Rattle.std.specs.declared.option.Option.TheVariants.{Some}
use Rattle.turn_counters.specs.declared.bump.Bump.TheVariants.{Both}
use Rattle.turn_counters.proofs.Working.{both_out, both_first_named, both_second_named, both_made}
use Rattle.turn_counters.proofs.counters.bump_both.Goals as goal

pub commit-requires-clause-out : goal.commit-requires-clause-out
commit-requires-clause-out g c κs = (
  Both,
  c.take-first.result,
  Some c.take-second.result,
  both_out c.args.pass.now.view c.take-first.result c.begin.ensures.begun c.take-first.ensures.taken
      c.take-second.result c.take-second.ensures.taken,
)

pub give-requires-clause-named : goal.give-requires-clause-named
give-requires-clause-named g c κs =
    both_first_named c.args.pass.now.view c.take-first.result c.begin.ensures.begun c.take-first.ensures.taken
    c.take-second.result c.take-second.ensures.taken c.commit.ensures.done

pub give-requires-2-clause-named : goal.give-requires-2-clause-named
give-requires-2-clause-named g c κs =
    both_second_named c.args.pass.now.view c.take-first.result c.begin.ensures.begun c.take-first.ensures.taken
    c.take-second.result c.take-second.ensures.taken c.commit.ensures.done c.give.ensures.given

pub returns-clause-made : goal.returns-clause-made
returns-clause-made g c =
    both_made c.args.pass.now.view c.take-first.result c.begin.ensures.begun c.take-first.ensures.taken
    c.take-second.result c.take-second.ensures.taken c.commit.ensures.done c.give.ensures.given
    c.give-2.ensures.given c.requires.idle
