use Rattle.std.proofs.Common.{sym, subst}
use Rattle.fics_words.specs.Effect.{Takes}
use Rattle.lobby_state.specs.declared.acts.LobbyAct.{LobbyAct}
use Rattle.lobby_state.specs.Acts.{lobby_effect}
use Rattle.lobby_state.proofs.roster.Roster.act.Goals as goal

pub returns-in-Enter : goal.returns-in-Enter
returns-in-Enter c =
    subst (λ (act : LobbyAct).
    Takes (lobby_effect c.args.self.now c.args.session act) c.args.self.now c.enter.new.self c.enter.result)
    (sym c.in-Enter.is) c.enter.ensures
