use Rattle.std.proofs.Common.{refl, sym}
use Rattle.lobby_state.specs.Lobby.{is_session}
use Rattle.lobby_state.specs.Resumed.{with_lines}
use Rattle.lobby_state.proofs.Lent.{change_first-missing, changed_there}
use Rattle.lobby_state.proofs.acts.resumed.put_lines.Goals as goal

pub returns-in_default : goal.returns-in_default
returns-in_default c =
    sym (change_first-missing (is_session c.args.session) (with_lines c.args.lines) c.args.members.now
    (sym c.in_default.ensures))

pub returns : goal.returns
returns c =
    changed_there (is_session c.args.session) (with_lines c.args.lines) _ c.args.members.now c.in-Some.place
    c.in-Some.ensures (λ m at. refl)
