use Rattle.std.proofs.Common.{subst, sym}
use Rattle.histories.proofs.Histories.{stays_whole}
use Rattle.one_server.specs.House.{house}
use Rattle.one_server.specs.LawfulProof.{house_lawful}
use Rattle.one_server.specs.Whole.{IsWhole}
use Rattle.hall_core.specs.Passes.{PassState, EveryoneJoined}
use Rattle.hall_core.proofs.hall.Hall.close.Goals as goal

pub close-requires-clause-all_joined : goal.close-requires-clause-all_joined
close-requires-clause-all_joined c κs =
    subst (λ (p : PassState). EveryoneJoined p) (sym c.pass.view_is) c.requires.all_joined

pub told_apart-requires-clause-whole : goal.told_apart-requires-clause-whole
told_apart-requires-clause-whole c =
    let view = c.pass.inside.pass.view in
    subst IsWhole (sym c.close.ensures.parts)
    (stays_whole house house_lawful view.opening view.seen c.pass.invariant.whole c.close.ensures.legal)
