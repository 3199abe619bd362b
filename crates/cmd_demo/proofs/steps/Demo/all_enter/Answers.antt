use Rattle.std.proofs.Common.{◌∙◌}
use Rattle.cmd_demo.proofs.Going.{none_entered, one_enters}
use Rattle.cmd_demo.proofs.steps.Demo.all_enter.Goals as goal

pub loop-place-init : goal.loop-place-init
loop-place-init c = record { gone = none_entered c.args.self.now; moment = c.requires }

pub loop-place-preserved : goal.loop-place-preserved
loop-place-preserved c = record {
  gone =
      one_enters c.loop-place.place c.args.self.now c.loop-place.self c.enter.new.self c.loop-place.invariant.gone
      c.in_ok-enter.ensures.gone;
  moment = c.in_ok-enter.ensures.moment ∙ c.loop-place.invariant.moment;
}
