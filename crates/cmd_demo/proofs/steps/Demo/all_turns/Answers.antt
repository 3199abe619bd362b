use Rattle.std.proofs.Common.{arith}
use Rattle.cmd_demo.proofs.Going.{no_turns, one_turn}
use Rattle.cmd_demo.proofs.steps.Demo.all_turns.Goals as goal

pub loop-turn-init : goal.loop-turn-init
loop-turn-init c = record { gone = no_turns c.args.self.now; moment = omega (arith, c.requires) }

pub loop-turn-preserved : goal.loop-turn-preserved
loop-turn-preserved c = record {
  gone =
      one_turn c.loop-turn._turn c.args.self.now c.loop-turn.self c.turn.new.self c.loop-turn.invariant.gone
      c.in_ok-turn.ensures.gone;
  moment = omega (arith, c.in_ok-turn.ensures.moment, c.loop-turn.invariant.moment);
}
