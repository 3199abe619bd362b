use Rattle.std.proofs.Common.{◌≤◌, ℕ, sym, subst}
use Rattle.cmd_demo.proofs.Going.{none_quits, one_quits}
use Rattle.cmd_demo.proofs.steps.Demo.all_quit.Goals as goal

pub loop-place-init : goal.loop-place-init
loop-place-init c = record { gone = none_quits c.args.self.now; moment = c.requires }

pub loop-place-preserved : goal.loop-place-preserved
loop-place-preserved c = record {
  gone =
      one_quits c.loop-place.place c.args.self.now c.loop-place.self c.say.new.self c.loop-place.invariant.gone
      c.in_ok-say.ensures;
  moment = subst (λ (m : ℕ). m ≤ 8000000) (sym c.in_ok-say.ensures.moment) c.loop-place.invariant.moment;
}
