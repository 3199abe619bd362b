use Rattle.std.proofs.Common.{◌≡◌, None, Some, refl, sym, ap, subst, ◌∙◌}
use Rattle.cmd_replay.specs.Evening.{AfterLeaving, EveningState}
use Rattle.cmd_replay.proofs.EveningAnswers.{closed_after, closed_before}
use Rattle.cmd_replay.proofs.evening.EveningLineHandler.close.Goals as goal

pub returns : goal.returns
returns c =
    let old = c.args.self.now in
    let progress = c.in-Some.order in
    let new : EveningState =
    record {
      server = c.close_sessions.new.server;
      order = c.self.inside.order;
      moment = c.self.inside.moment;
      memories = c.close_sessions.new.sessions;
    } in
    let order : old.order ≡ Some progress = sym (ap (λ (v : EveningState). v.order) c.self.view_is) ∙ c.in-Some.is in
    let leaving : AfterLeaving progress old.memories old.moment 64 old.server new.server =
    subst (λ (v : EveningState). AfterLeaving progress v.memories v.moment 64 v.server new.server) c.self.view_is
    c.in_ok-close_sessions.ensures.left in
    closed_after old new progress order leaving c.history-history.ensures.legal

pub returns-in_default : goal.returns-in_default
returns-in_default c =
    let order : c.args.self.now.order ≡ None =
    sym (ap (λ (v : EveningState). v.order) c.self.view_is) ∙ c.in_default.is in
    closed_before c.args.self.now c.args.self.now order refl
