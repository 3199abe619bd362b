use Rattle.lobby_state.proofs.KeepsPlans.{keeps_plan, plan_of-is}
use Rattle.lobby_state.proofs.laws.plans_keep.Goals as goal

pub returns : goal.returns
returns c = record {
  planned = λ h e.
      plan_of-is c.args.lobby.now c.args.session c.args.act.now c.args.plan.now h c.names_desk.ensures e;
  kept = keeps_plan c.args.lobby.now c.args.plan.now;
}
