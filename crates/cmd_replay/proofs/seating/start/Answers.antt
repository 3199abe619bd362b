use Rattle.std.proofs.Common.{◌∷◌, [], List, ℕ, subst, ◌∙◌}
use Rattle.lobby_state.specs.declared.acts.LobbyAct.TheVariants as lobby_act
use Rattle.one_server.specs.declared.act.Act.TheVariants.{Lobby}
use Rattle.session_core.specs.Course.{act_at}
use Rattle.cmd_replay.specs.Evening.{HasMade}
use Rattle.cmd_replay.proofs.ActsMade.{made_last}
use Rattle.cmd_replay.proofs.seating.start.Goals as goal

pub returns : goal.returns
returns c =
    let challenge =
    subst (λ (key : List ℕ).
    HasMade ((1, act_at 0 (Lobby (lobby_act.Match key c.args.terms))) ∷ []) c.args.server.now.log c.make.new.server.log)
    c.key-to.ensures
    c.in_ok-make.ensures.made in
    record {
      opening = c.make-2.ensures.opening ∙ c.make.ensures.opening;
      made = made_last c.make-2.result _ _ _ _ _ challenge c.make-2.ensures.made;
    }
