use Rattle.std.proofs.Common.{refl, ◌∙◌}
use Rattle.turn_workers.proofs.Working.{made_none, made_more}
use Rattle.turn_workers.proofs.workers.work.Goals as goal

pub acts-init : goal.acts-init
acts-init g c = record { here = refl; made = made_none c.args.act c.args.pass.view c.requires.idle }

pub acts-preserved : goal.acts-preserved
acts-preserved g c =
    record {
      here = c.make.ensures.here ∙ c.acts.invariant.here;
      made =
          made_more c.args.act c.acts.counter c.args.pass.view c.acts.pass.view c.make.new.pass.view
          c.acts.invariant.made c.make.ensures.made;
    }
