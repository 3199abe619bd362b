use Rattle.std.proofs.Common.{OnOk, subst}
use Rattle.replay_core.specs.declared.script.ScriptEvent.{ScriptEvent}
use Rattle.cmd_demo.specs.Demo.{Comes}
use Rattle.cmd_demo.proofs.steps.Demo.say.Goals as goal

pub take-requires-clause-fits : goal.take-requires-clause-fits
take-requires-clause-fits c = (c.in_ok-event.ensures 0).fits

pub returns : goal.returns
returns c =
    subst (λ (event : ScriptEvent). OnOk c.take.result (Comes c.args.session event c.args.self.now c.take.new.self))
    (c.in_ok-event.ensures 0).event_is c.take.ensures
