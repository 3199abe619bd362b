use Rattle.std.proofs.Common.{sym, ap, subst, ◌∙◌}
use Rattle.lobby_state.specs.declared.acts.Plan.{Plan}
use Rattle.lobby_state.specs.Lobby.{LobbyState}
use Rattle.lobby_state.specs.Plans.{committed}
use Rattle.lobby_state.specs.Reserve.{CanShelve, shelved_in}
use Rattle.lobby_state.specs.Start.{lobby_seated}
use Rattle.lobby_state.proofs.KeepsClear.{place-left}
use Rattle.lobby_state.proofs.roster.Roster.commit.Goals as goal

pub put_away-requires-clause-place : goal.put_away-requires-clause-place
put_away-requires-clause-place c =
    let can =
    subst (λ (plan : Plan). CanShelve c.args.self.now plan (shelved_in c.args.ready)) c.in-Clear.is
    c.requires.ready.shelving in
    place-left c.args.self.now c.in-Clear.by c.in-Clear.desk c.in-Clear.serial (shelved_in c.args.ready) can
    c.requires.formed

pub returns-in-Resume : goal.returns-in-Resume
returns-in-Resume c =
    c.start-in-Resume.ensures
    ∙ ap (λ (l : LobbyState). lobby_seated l c.in-Resume.desk c.in-Resume.serial c.in-Resume.terms c.in-Resume.seats)
    c.take_off.ensures
    ∙ ap (λ (plan : Plan). committed c.args.self.now plan (shelved_in c.args.ready) c.args.cleared) (sym c.in-Resume.is)
