use Rattle.std.proofs.Common.{◌≡◌, ◌≤◌, [], length, sym, ap, subst, ◌∙◌}
use Rattle.std.specs.Prelude.{◌==◌}
use Rattle.tables.proofs.Firsts.{length-change_first}
use Rattle.tables.specs.Rows.{change_first}
use Rattle.lobby_state.specs.declared.member.Member.{Member}
use Rattle.lobby_state.specs.Lobby.{is_session}
use Rattle.lobby_state.specs.Names.{AreNamedApart, row_of, with_rows}
use Rattle.lobby_state.proofs.Lent.{by_session}
use Rattle.lobby_state.proofs.Lists.{map-change_first_same}
use Rattle.lobby_state.proofs.NamesKept.{apart_kept, rows_kept}
use Rattle.lobby_state.proofs.members.Members.change.Goals as goal

pub invariant_of-self : goal.invariant_of-self
invariant_of-self g c =
    let test = λ (member : Member). c.args.session == member.session in
    let f = g.C.Change.changed c.args.change.now in
    let members = c.self.inside.rows in
    let keeps : (m : Member) → row_of (f m) ≡ row_of m = λ m j.
    record { name = c.requires.names m j; session = c.requires.sessions m j } in
    let same = map-change_first_same row_of test f keeps members in
    record {
      within =
          subst (λ n. n ≤ 256) (sym (ap length c.change.ensures ∙ length-change_first test f members))
          c.self.invariant.within;
      names = c.self.invariant.names ∙ sym (rows_kept members _ same) ∙ ap (with_rows []) (sym c.change.ensures);
      apart = subst AreNamedApart (sym c.change.ensures) (apart_kept members _ same c.self.invariant.apart);
    }

pub returns : goal.returns
returns g c =
    let f = g.C.Change.changed c.args.change.now in
    c.change.ensures ∙ by_session c.args.session f c.self.inside.rows
    ∙ ap (change_first (is_session c.args.session) f) c.self.view_is
