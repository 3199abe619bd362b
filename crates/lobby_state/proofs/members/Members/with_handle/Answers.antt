use Rattle.std.proofs.Common.{option_copied, sym, ap, ◌∙◌}
use Rattle.std.specs.Prelude.{◌==◌}
use Rattle.std.specs.List.{find}
use Rattle.lobby_state.specs.declared.member.Member.{Member}
use Rattle.lobby_state.specs.Lobby.{has_handle}
use Rattle.lobby_state.proofs.NamedApart.{looked, of_none, of_some, own_session}
use Rattle.lobby_state.proofs.members.Members.with_handle.Goals as goal

pub returns-in-Some-clause-member : goal.returns-in-Some-clause-member
returns-in-Some-clause-member c =
    let members = c.self.inside.rows in
    let m =
    of_some (find (has_handle c.args.key) members) c.in-Some.row.now
    (ap option_copied (sym c.in-Some.is)
    ∙ looked c.args.key _ c.self.inside.names members c.get.ensures c.self.invariant.names c.self.invariant.apart) in
    c.get-in-Some.ensures
    ∙ ap (λ session. find (λ (member : Member). session == member.session) members) (sym m.2)
    ∙ own_session (has_handle c.args.key) members m.0 c.as_slice-rows.ensures.apart m.1
    ∙ sym m.1 ∙ ap (find (has_handle c.args.key)) c.self.view_is

pub returns-in-None-clause-member : goal.returns-in-None-clause-member
returns-in-None-clause-member c =
    sym (of_none (find (has_handle c.args.key) c.self.inside.rows)
    (sym (looked c.args.key _ c.self.inside.names c.self.inside.rows c.get.ensures c.self.invariant.names
    c.self.invariant.apart)
    ∙ ap option_copied c.in-None.is))
    ∙ ap (find (has_handle c.args.key)) c.self.view_is
