use Rattle.std.proofs.Common.{option_copied, position, sym, ap, ◌∙◌}
use Rattle.std.specs.List.{find}
use Rattle.lobby_state.specs.Lobby.{is_named}
use Rattle.lobby_state.proofs.NamedApart.{no_place, own_place}
use Rattle.lobby_state.proofs.members.Members.place_named.Goals as goal

pub returns-in-Some : goal.returns-in-Some
returns-in-Some c =
    let p = is_named c.args.key in
    let found = ap (find p) c.self.view_is ∙ sym (ap option_copied (sym c.in-Some.is) ∙ c.named.ensures) in
    c.place.ensures ∙ own_place p c.self.inside.rows c.in-Some.member.now c.as_slice-rows.ensures.apart found
    ∙ ap (position p) c.self.view_is

pub returns-in-None : goal.returns-in-None
returns-in-None c =
    sym (no_place (is_named c.args.key) c.args.self.now (sym c.named.ensures ∙ ap option_copied c.in-None.is))
