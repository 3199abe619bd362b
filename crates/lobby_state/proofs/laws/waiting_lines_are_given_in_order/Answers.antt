use Rattle.std.proofs.Common.{refl}
use Rattle.lobby_state.proofs.WaitingKept.{all_kept, kept_after, kept_plan, none_waits}
use Rattle.lobby_state.proofs.laws.waiting_lines_are_given_in_order.Goals as goal

pub returns-clause-fetched : goal.returns-clause-fetched
returns-clause-fetched c = refl

pub returns-clause-emptied : goal.returns-clause-emptied
returns-clause-emptied c = none_waits c.args.session c.args.lobby.now.members

pub returns-clause-others : goal.returns-clause-others
returns-clause-others c deed stays fetches =
    kept_after c.args.lobby.now deed.by c.args.session deed.act (λ f same. fetches same f) (λ b same. stays same b)

pub returns-clause-plans : goal.returns-clause-plans
returns-clause-plans c = kept_plan c.args.lobby.now c.args.session

pub returns-clause-run : goal.returns-clause-run
returns-clause-run c = all_kept c.args.lobby.now c.args.session
